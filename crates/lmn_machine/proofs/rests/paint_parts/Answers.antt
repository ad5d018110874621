use Rattle.std.proofs.Common.{◌≡◌, ◌++◌, take, ap, get_or, subst, sym, ◌∙◌}
use Rattle.std.specs.Prelude.{◌↔◌}
use Rattle.std.proofs.lemmas.Option.{slice_get-get_or}
use Rattle.lmn_base.specs.Lists.{In}
use Rattle.lmn_instr_code.specs.Running.{IsInSome}
use Rattle.lmn_ground.specs.Rests.{own_marked}
use Rattle.lmn_ground.proofs.GatherRestLaws.{take_past}
use Rattle.lmn_machine.proofs.Resting.{now_atom, now_port, now_clean, now_whole, tells_more}
use Rattle.lmn_machine_commit.proofs.Owning.{own_append}
use Rattle.lmn_machine.proofs.rests.paint_parts.Goals as goal

pub paint-requires-clause-root : goal.paint-requires-clause-root
paint-requires-clause-root g c =
    let m = c.requires.marked in
    let inv = c.loop-i.invariant in (
      now_atom m.0 m.2 m.1 (g.S.LinkStore.heap c.args.store.now) m.3 inv.0 c.args.mark (g.S.LinkStore.heap c.loop-i.store) inv.2 (g.S.LinkStore.atom_id c.at.result.0) (c.requires.parts _ _ c.at.ensures).0,
      now_port m.0 m.2 m.1 (g.S.LinkStore.heap c.args.store.now) m.3 inv.0 c.args.mark (g.S.LinkStore.heap c.loop-i.store) inv.2 (g.S.LinkStore.atom_id c.at.result.0) c.at.result.1 (c.requires.parts _ _ c.at.ensures).1,
    )

pub paint-requires-clause-clean : goal.paint-requires-clause-clean
paint-requires-clause-clean g c =
    let m = c.requires.marked in
    let inv = c.loop-i.invariant in
    now_clean m.0 m.2 m.1 (g.S.LinkStore.heap c.args.store.now) m.3 inv.0 c.args.mark (g.S.LinkStore.heap c.loop-i.store) inv.2

pub paint-requires-clause-ground : goal.paint-requires-clause-ground
paint-requires-clause-ground g c =
    let m = c.requires.marked in
    let inv = c.loop-i.invariant in
    now_whole m.0 m.2 m.1 (g.S.LinkStore.heap c.args.store.now) m.3 inv.0 c.args.mark (g.S.LinkStore.heap c.loop-i.store) inv.2 c.requires.full (g.S.LinkStore.atom_id c.at.result.0, c.at.result.1)

pub loop-i-preserved : goal.loop-i-preserved
loop-i-preserved g c =
    let m = c.requires.marked in
    let inv = c.loop-i.invariant in
    let w = c.paint.ensures in
    let s = g.S.LinkStore.heap c.args.store.now in (
      inv.0 ++ w.0,
      λ r a b. tells_more m.0 m.2 m.1 s m.3 inv.0 c.args.mark (g.S.LinkStore.heap c.loop-i.store) inv.2 c.args.listed.now c.loop-i.i (get_or c.args.listed.now c.loop-i.i 0) (g.S.LinkStore.atom_id c.at.result.0, c.at.result.1) r b
          (slice_get-get_or c.args.listed.now c.loop-i.i 0 c.loop-i-test.true) (a.parts _ _ c.at.ensures) (inv.1 r a b) w.0 w.1,
      w.2 ∙ ap (λ k. own_marked c.args.mark w.0 k) inv.2 ∙ sym (own_append c.args.mark inv.0 w.0 s),
    )

pub returns : goal.returns
returns g c =
    let inv = c.loop-i.invariant in
    let s = g.S.LinkStore.heap c.args.store.now in
    let n = c.loop-i-test.false in
    let all : take c.loop-i.i c.args.listed.now ≡ c.args.listed.now = take_past c.args.listed.now c.loop-i.i n in
    (inv.0, λ r a b. subst (λ gs. In b inv.0 ↔ IsInSome s r gs b) all (inv.1 r a b), inv.2)
