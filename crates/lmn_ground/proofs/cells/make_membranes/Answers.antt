use Rattle.std.proofs.Common.{arith, map, take, subst, sym, ◌∙◌}
use Rattle.lmn_ground.proofs.GatherRestLaws.{Rooms, are_member, kept_rules, rooms_broken, rooms_next, rooms_none, some_rooms, take_next, take_past, there_still}
use Rattle.lmn_ground.proofs.cells.make_membranes.Goals as goal

pub loop-i-init : goal.loop-i-init
loop-i-init g c = record { made = rooms_none (g.S.LinkStore.heap c.args.store.now) }

pub rules-rules-requires : goal.rules-rules-requires
rules-rules-requires g c =
    there_still (g.S.LinkStore.heap c.args.store.now) (g.S.LinkStore.heap c.loop-i.store) _ _ c.loop-i.invariant.made
    (are_member g.S.LinkStore.mem_id (g.S.LinkStore.heap c.args.store.now) c.args.membranes.now c.loop-i.i _ c.requires.there c.at.ensures)

pub loop-i-preserved : goal.loop-i-preserved
loop-i-preserved g c =
    let s = g.S.LinkStore.heap c.args.store.now in
    let t = g.S.LinkStore.heap c.loop-i.store in
    let u = g.S.LinkStore.heap c.reserve_rules.new.self in
    let x = g.S.LinkStore.mem_id c.at.result.now in
    record {
      made = subst (Rooms s u) (sym (take_next g.S.LinkStore.mem_id c.args.membranes.now c.loop-i.i _ c.at.ensures))
          (rooms_next s t _ u (map g.S.LinkStore.mem_id (take c.loop-i.i c.args.membranes.now)) x _ _ c.loop-i.invariant.made c.in_ok-copy.ensures.fresh c.in_ok-copy.ensures.ok c.in_ok-reserve_rules.ensures.ok
          (kept_rules s t (map g.S.LinkStore.mem_id (take c.loop-i.i c.args.membranes.now)) x _ _ c.loop-i.invariant.made
          (are_member g.S.LinkStore.mem_id s c.args.membranes.now c.loop-i.i _ c.requires.there c.at.ensures) c.rules-rules.ensures c.in_ok-reserve_rules.ensures.least));
    }

pub returns-in_err-copy-clause-some : goal.returns-in_err-copy-clause-some
returns-in_err-copy-clause-some g c = some_rooms _ _ _ _ c.loop-i.invariant.made c.in_err-copy.ensures.err

pub returns-in_err-reserve_rules-clause-some : goal.returns-in_err-reserve_rules-clause-some
returns-in_err-reserve_rules-clause-some g c =
    let w = rooms_broken _ _ _ _ _ c.loop-i.invariant.made c.in_ok-copy.ensures.fresh c.in_ok-copy.ensures.ok in
    (w.0, w.1, c.in_err-reserve_rules.ensures.err ∙ w.2)

pub returns-clause-some : goal.returns-clause-some
returns-clause-some g c = let t = c.loop-i.invariant.made in (t.rooms, t.new, t.is)

pub returns-clause-ok : goal.returns-clause-ok
returns-clause-ok g c =
    let t = subst (λ zs. Rooms (g.S.LinkStore.heap c.args.store.now) (g.S.LinkStore.heap c.loop-i.store) (map g.S.LinkStore.mem_id zs)) (take_past c.args.membranes.now c.loop-i.i (omega arith)) c.loop-i.invariant.made in
    (t.rooms, t.new, t.roomy, t.is)
