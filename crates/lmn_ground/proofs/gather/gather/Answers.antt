use Rattle.std.proofs.Common.{◌<◌, ◌≤◌, ◌+◌, ◌-◌, ℕ, ◌^◌, arith, ◌∙◌, refl}
use Rattle.lmn_store_heap.specs.Heap.{arity_of}
use Rattle.lmn_ground.proofs.SpreadLaws.{spreading_on, entered_back, there_after, there_beside, port_after, way_marked, way_stays, few_next, way_now}
use Rattle.lmn_ground.proofs.GatherLaws.{gather_first, gather_next, gather_none, gather_some, gather_all, gather_joined}
use Rattle.std.proofs.Common.{map, subst, sym}
use Rattle.lmn_ground.specs.Copies.{NumbersAtoms}
use Rattle.lmn_ground.proofs.gather.gather.Goals as goal

less : (n m : ℕ) → n + 1 ≤ m → m - (n + 1) < m - n
less n m h = omega arith

pub returns-in_err-push-clause-marked : goal.returns-in_err-push-clause-marked
returns-in_err-push-clause-marked g c = gather_none g.S.LinkStore.atom_id _ c.args.atoms.now c.requires.empty _ c.in_err-push.ensures.err

pub loop-root-init : goal.loop-root-init
loop-root-init g c = record {
  atom = there_after _ _ _ _ _ _ c.mark_entry.ensures.marked c.requires.root.1;
  walk = gather_first g.S.LinkStore.atom_id _ _ _ c.args.root.1 _ c.args.atoms.now _ c.requires.empty c.in_ok-push.ensures.ok c.mark_entry.ensures.marked refl c.mark_entry.ensures.small c.arity-arity.ensures.sound c.requires.clean c.requires.root.1;
  bound = omega arith;
}

pub seek-stand-requires-clause-way : goal.seek-stand-requires-clause-way
seek-stand-requires-clause-way g c = way_now _ _ _ _ _ _ _ _ _ c.loop-root.invariant.walk

pub returns-then-stand-arity-clause-marked : goal.returns-then-stand-arity-clause-marked
returns-then-stand-arity-clause-marked g c = gather_some _ _ _ _ _ _ _ _ c.loop-root.invariant.walk

pub returns-then-stand-arity-clause-ok : goal.returns-then-stand-arity-clause-ok
returns-then-stand-arity-clause-ok g c =
    let t = spreading_on _ _ _ _ _ _ _ _ _ _ _ _ c.loop-root.invariant.walk c.seek-stand.ensures.sought c.seek-stand.ensures.halts.inside in
    let f = c.if-stand-arity.true ∙ c.arity.ensures.arity in
    gather_all _ _ _ _ _ _ _ _ t (c.seek-stand.ensures.halts.end f) f

pub loop-root-smaller : goal.loop-root-smaller
loop-root-smaller g c =
    let t = spreading_on _ _ _ _ _ _ _ _ _ _ _ _ c.loop-root.invariant.walk c.seek-stand.ensures.sought c.seek-stand.ensures.halts.inside in
    let h : c.loop-root.count + 1 ≤ 2 ^ 48 = few_next _ _ _ _ _ _ _ _ _ _ (2 ^ 48) t c.arity.ensures.few c.in-Some.ensures.there.0 (c.seek-stand.ensures.halts.fresh _ _ c.in-Some.ensures.link) in
    less c.loop-root.count (2 ^ 48) h

pub go_down-at-requires-clause-from : goal.go_down-at-requires-clause-from
go_down-at-requires-clause-from g c =
    let l : c.seek-stand.result.port < arity_of (g.S.LinkStore.heap c.loop-root.store) (g.S.LinkStore.atom_id c.seek-stand.result.atom) = let h = c.seek-stand.ensures.halts.inside in omega (arith, h) in
    (there_beside _ _ _ _ _ _ _ c.mark_entry-in-Some.ensures.marked l, port_after _ _ _ _ _ _ _ c.mark_entry-in-Some.ensures.marked l)

pub go_down-at-requires-clause-marked : goal.go_down-at-requires-clause-marked
go_down-at-requires-clause-marked g c =
    let t = spreading_on _ _ _ _ _ _ _ _ _ _ _ _ c.loop-root.invariant.walk c.seek-stand.ensures.sought c.seek-stand.ensures.halts.inside in
    way_stays _ _ _ _ _ c.mark_entry-in-Some.ensures.marked (way_marked _ _ _ _ _ _ _ _ _ t) (c.seek-stand.ensures.halts.fresh _ _ c.in-Some.ensures.link)

pub go_down-at-requires-clause-atom : goal.go_down-at-requires-clause-atom
go_down-at-requires-clause-atom g c = there_after _ _ _ _ _ _ c.mark_entry-in-Some.ensures.marked c.in-Some.ensures.there.1

pub go_down-at-requires-clause-way : goal.go_down-at-requires-clause-way
go_down-at-requires-clause-way g c =
    let t = spreading_on _ _ _ _ _ _ _ _ _ _ _ _ c.loop-root.invariant.walk c.seek-stand.ensures.sought c.seek-stand.ensures.halts.inside in
    let l : c.seek-stand.result.port < arity_of (g.S.LinkStore.heap c.loop-root.store) (g.S.LinkStore.atom_id c.seek-stand.result.atom) = let h = c.seek-stand.ensures.halts.inside in omega (arith, h) in
    way_now _ _ _ _ _ _ _ _ _ (gather_next g.S.LinkStore.atom_id _ _ _ _ c.loop-root.atoms _ _ _ _ _ _ _ c.in_ok-push-in-Some.ensures.ok c.mark_entry-in-Some.ensures.marked t c.arity.ensures.sound c.requires.clean l c.in-Some.ensures.link c.in-Some.ensures.back c.in-Some.ensures.there.1 c.mark_entry-in-Some.ensures.small
    (c.seek-stand.ensures.halts.apart l) (c.seek-stand.ensures.halts.fresh _ _ c.in-Some.ensures.link))

pub go_down-at-requires-clause-entered : goal.go_down-at-requires-clause-entered
go_down-at-requires-clause-entered g c = record {
  first = refl;
  deeper = refl;
  entry = entered_back _ _ _ _ _ _ c.loop-root.count c.mark_entry-in-Some.ensures.marked c.arity.ensures.sound c.in-Some.ensures.back c.in-Some.ensures.there.1 c.mark_entry-in-Some.ensures.small;
}

pub loop-root-preserved : goal.loop-root-preserved
loop-root-preserved g c =
    let t = spreading_on _ _ _ _ _ _ _ _ _ _ _ _ c.loop-root.invariant.walk c.seek-stand.ensures.sought c.seek-stand.ensures.halts.inside in
    let l : c.seek-stand.result.port < arity_of (g.S.LinkStore.heap c.loop-root.store) (g.S.LinkStore.atom_id c.seek-stand.result.atom) = let h = c.seek-stand.ensures.halts.inside in omega (arith, h) in
    let in_walk = gather_next g.S.LinkStore.atom_id _ _ _ _ c.loop-root.atoms _ _ _ _ _ _ _ c.in_ok-push-in-Some.ensures.ok c.mark_entry-in-Some.ensures.marked t c.arity.ensures.sound c.requires.clean l c.in-Some.ensures.link c.in-Some.ensures.back c.in-Some.ensures.there.1 c.mark_entry-in-Some.ensures.small
    (c.seek-stand.ensures.halts.apart l) (c.seek-stand.ensures.halts.fresh _ _ c.in-Some.ensures.link) in
    record {
      atom = c.go_down-at.ensures.atom;
      walk = spreading_on _ _ _ _ _ _ _ _ _ _ _ _ in_walk c.go_down-at.ensures.sought c.go_down-at.ensures.inside;
      bound = few_next _ _ _ _ _ _ _ _ _ _ (2 ^ 48) t c.arity.ensures.few c.in-Some.ensures.there.0 (c.seek-stand.ensures.halts.fresh _ _ c.in-Some.ensures.link);
    }

pub unreachable-requires : goal.unreachable-requires
unreachable-requires g c =
    let t = spreading_on _ _ _ _ _ _ _ _ _ _ _ _ c.loop-root.invariant.walk c.seek-stand.ensures.sought c.seek-stand.ensures.halts.inside in
    let l : c.seek-stand.result.port < arity_of (g.S.LinkStore.heap c.loop-root.store) (g.S.LinkStore.atom_id c.seek-stand.result.atom) = let h = c.seek-stand.ensures.halts.inside in omega (arith, h) in
    gather_joined _ _ _ _ _ _ _ _ t c.in-None.ensures.link l (c.seek-stand.ensures.halts.apart l) c.requires.ground

pub returns-in_err-push-in-Some-clause-marked : goal.returns-in_err-push-in-Some-clause-marked
returns-in_err-push-in-Some-clause-marked g c =
    subst (λ xs. NumbersAtoms (g.S.LinkStore.heap c.args.store.now) (g.S.LinkStore.heap c.loop-root.store) (map g.S.LinkStore.atom_id xs)) (sym c.in_err-push-in-Some.ensures.err)
    (gather_some _ _ _ _ _ _ _ _ c.loop-root.invariant.walk)
