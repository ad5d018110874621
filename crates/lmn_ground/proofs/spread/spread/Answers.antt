use Rattle.std.proofs.Common.{[], ◌∷◌, ◌<◌, ◌≤◌, ◌+◌, ◌-◌, ℕ, ◌^◌, IfSome, arith, refl, sym, subst, ◌∙◌}
use Rattle.std.specs.Option.{option_map}
use Rattle.lmn_store_heap.specs.Heap.{Heap, IsAtom, IsMem, arity_of}
use Rattle.lmn_ground.specs.Spread.{Spreading}
use Rattle.lmn_ground.proofs.SpreadLaws.{spreading_first, spreading_on, entered, entered_back, there_after, there_beside, port_after, way_marked, way_stays, some_listed, all_listed, part_fits, unfit, unjoined, few_next, way_now, fits_before, first_there}
use Rattle.lmn_ground.proofs.TrailLaws.{trail_next, trail_none}
use Rattle.lmn_base.proofs.Truth.{false_not_true, never_both}
use Rattle.lmn_ground.proofs.spread.spread.Goals as goal

less : (n m : ℕ) → n + 1 ≤ m → m - (n + 1) < m - n
less n m h = omega arith

pub loop-root-init : goal.loop-root-init
loop-root-init g c =
    let id = g.S.LinkStore.atom_id in
    let e = sym c.set_mark.ensures in
    record {
      atom = subst (λ (s : Heap). IsAtom s (id c.args.root.0)) e (first_there (g.S.LinkStore.heap c.args.store.now) (id c.args.root.0) 0 (512 + c.args.root.1) (let p = c.requires.root.1 in omega (arith, p)));
      walk = (
        _,
        subst (λ (s : Heap). Spreading (g.S.LinkStore.heap c.args.store.now) s (id c.args.root.0, c.args.root.1) (option_map g.S.LinkStore.mem_id c.args.home) (id c.args.root.0 ∷ []) 0 (id c.args.root.0) 0 1) e
            (spreading_first (g.S.LinkStore.heap c.args.store.now) (id c.args.root.0, c.args.root.1) _ (512 + c.args.root.1) c.arity-arity.ensures.sound c.requires.clean c.requires.root.1 c.requires.first (omega arith) (let e = c.arity-arity.ensures.arity in let r = c.arity-arity.type_inv in let p = c.requires.root.1 in omega (arith, e, r, p))),
        trail_next id _ _ c.args.root.0 _ _ _ c.push_if_room.ensures (trail_none id _ c.clear.ensures),
      );
      mem = subst (λ (s : Heap). IfSome c.args.home (λ m. IsMem s (g.S.LinkStore.mem_id m))) e c.requires.mem;
      bound = omega arith;
    }

pub seek-stand-requires-clause-way : goal.seek-stand-requires-clause-way
seek-stand-requires-clause-way g c = way_now _ _ _ _ _ _ _ _ _ c.loop-root.invariant.walk.1

pub returns-then-stand-arity-clause-spread : goal.returns-then-stand-arity-clause-spread
returns-then-stand-arity-clause-spread g c =
    let t = spreading_on _ _ _ _ _ _ _ _ _ _ _ _ c.loop-root.invariant.walk.1 c.seek-stand.ensures.sought c.seek-stand.ensures.halts.inside in
    let f = c.if-stand-arity.true ∙ c.arity.ensures.arity in
    all_listed _ _ _ g.S.LinkStore.atom_id _ _ _ _ _ _ _ t (c.seek-stand.ensures.halts.end f) f c.loop-root.invariant.walk.2

pub returns-then-stand-arity-clause-fits : goal.returns-then-stand-arity-clause-fits
returns-then-stand-arity-clause-fits g c =
    let t = spreading_on _ _ _ _ _ _ _ _ _ _ _ _ c.loop-root.invariant.walk.1 c.seek-stand.ensures.sought c.seek-stand.ensures.halts.inside in
    let f = c.if-stand-arity.true ∙ c.arity.ensures.arity in
    (λ _. part_fits _ _ _ _ _ _ _ _ _ t (c.seek-stand.ensures.halts.end f) f, λ _. refl)

pub returns-then-not-fits-clause-spread : goal.returns-then-not-fits-clause-spread
returns-then-not-fits-clause-spread g c =
    let t = spreading_on _ _ _ _ _ _ _ _ _ _ _ _ c.loop-root.invariant.walk.1 c.seek-stand.ensures.sought c.seek-stand.ensures.halts.inside in
    some_listed _ _ _ g.S.LinkStore.atom_id _ _ _ _ _ _ _ t c.loop-root.invariant.walk.2

pub returns-then-not-fits-clause-fits : goal.returns-then-not-fits-clause-fits
returns-then-not-fits-clause-fits g c =
    let t = spreading_on _ _ _ _ _ _ _ _ _ _ _ _ c.loop-root.invariant.walk.1 c.seek-stand.ensures.sought c.seek-stand.ensures.halts.inside in
    let l : c.seek-stand.result.port < arity_of (g.S.LinkStore.heap c.loop-root.store) (g.S.LinkStore.atom_id c.seek-stand.result.atom) = let h = c.seek-stand.ensures.halts.inside in omega (arith, h) in
    let both = fits_before _ _ _ _ _ _ _ _ _ _ _ t c.in-Some.ensures.there.1 in
    (λ w. absurd (false_not_true w), λ f. absurd (unfit _ _ _ _ _ _ _ _ _ _ _ t c.in-Some.ensures.link (c.seek-stand.ensures.halts.apart l) (λ k. never_both _ (c.fits.ensures.1 (both.1 k)) c.if-not-fits.true) f))

pub loop-root-smaller : goal.loop-root-smaller
loop-root-smaller g c =
    let t = spreading_on _ _ _ _ _ _ _ _ _ _ _ _ c.loop-root.invariant.walk.1 c.seek-stand.ensures.sought c.seek-stand.ensures.halts.inside in
    let h : c.loop-root.count + 1 ≤ 2 ^ 48 = few_next _ _ _ _ _ _ _ _ _ _ (2 ^ 48) t c.arity.ensures.few c.in-Some.ensures.there.0 (c.seek-stand.ensures.halts.fresh _ _ c.in-Some.ensures.link) in
    less c.loop-root.count (2 ^ 48) h

pub go_down-at-requires-clause-from : goal.go_down-at-requires-clause-from
go_down-at-requires-clause-from g c =
    let l : c.seek-stand.result.port < arity_of (g.S.LinkStore.heap c.loop-root.store) (g.S.LinkStore.atom_id c.seek-stand.result.atom) = let h = c.seek-stand.ensures.halts.inside in omega (arith, h) in
    (there_beside _ _ _ _ _ _ _ c.mark_entry.ensures.marked l, port_after _ _ _ _ _ _ _ c.mark_entry.ensures.marked l)

pub go_down-at-requires-clause-marked : goal.go_down-at-requires-clause-marked
go_down-at-requires-clause-marked g c =
    let t = spreading_on _ _ _ _ _ _ _ _ _ _ _ _ c.loop-root.invariant.walk.1 c.seek-stand.ensures.sought c.seek-stand.ensures.halts.inside in
    way_stays _ _ _ _ _ c.mark_entry.ensures.marked (way_marked _ _ _ _ _ _ _ _ _ t) (c.seek-stand.ensures.halts.fresh _ _ c.in-Some.ensures.link)

pub go_down-at-requires-clause-atom : goal.go_down-at-requires-clause-atom
go_down-at-requires-clause-atom g c = there_after _ _ _ _ _ _ c.mark_entry.ensures.marked c.in-Some.ensures.there.1

pub go_down-at-requires-clause-way : goal.go_down-at-requires-clause-way
go_down-at-requires-clause-way g c =
    let t = spreading_on _ _ _ _ _ _ _ _ _ _ _ _ c.loop-root.invariant.walk.1 c.seek-stand.ensures.sought c.seek-stand.ensures.halts.inside in
    let l : c.seek-stand.result.port < arity_of (g.S.LinkStore.heap c.loop-root.store) (g.S.LinkStore.atom_id c.seek-stand.result.atom) = let h = c.seek-stand.ensures.halts.inside in omega (arith, h) in
    way_now _ _ _ _ _ _ _ _ _ (entered _ _ _ _ _ _ _ _ _ _ _ _ c.mark_entry.ensures.marked t c.arity.ensures.sound c.requires.clean l c.in-Some.ensures.link c.in-Some.ensures.back c.in-Some.ensures.there.1 c.mark_entry.ensures.small
    (c.seek-stand.ensures.halts.apart l) (c.seek-stand.ensures.halts.fresh _ _ c.in-Some.ensures.link) (c.fits.ensures.0 c.if-not-fits.false))

pub go_down-at-requires-clause-entered : goal.go_down-at-requires-clause-entered
go_down-at-requires-clause-entered g c = record {
  first = refl;
  deeper = refl;
  entry = entered_back _ _ _ _ _ _ c.loop-root.count c.mark_entry.ensures.marked c.arity.ensures.sound c.in-Some.ensures.back c.in-Some.ensures.there.1 c.mark_entry.ensures.small;
}

pub loop-root-preserved : goal.loop-root-preserved
loop-root-preserved g c =
    let t = spreading_on _ _ _ _ _ _ _ _ _ _ _ _ c.loop-root.invariant.walk.1 c.seek-stand.ensures.sought c.seek-stand.ensures.halts.inside in
    let l : c.seek-stand.result.port < arity_of (g.S.LinkStore.heap c.loop-root.store) (g.S.LinkStore.atom_id c.seek-stand.result.atom) = let h = c.seek-stand.ensures.halts.inside in omega (arith, h) in
    let fresh = c.seek-stand.ensures.halts.fresh _ _ c.in-Some.ensures.link in
    let in_walk = entered _ _ _ _ _ _ _ _ _ _ _ _ c.mark_entry.ensures.marked t c.arity.ensures.sound c.requires.clean l c.in-Some.ensures.link c.in-Some.ensures.back c.in-Some.ensures.there.1 c.mark_entry.ensures.small
    (c.seek-stand.ensures.halts.apart l) fresh (c.fits.ensures.0 c.if-not-fits.false) in
    record {
      atom = c.go_down-at.ensures.atom;
      walk = (
        _,
        spreading_on _ _ _ _ _ _ _ _ _ _ _ _ in_walk c.go_down-at.ensures.sought c.go_down-at.ensures.inside,
        trail_next g.S.LinkStore.atom_id _ _ _ _ _ _ c.push_if_room-in-Some.ensures c.loop-root.invariant.walk.2,
      );
      mem = subst (λ (s : Heap). IfSome c.args.home (λ m. IsMem s (g.S.LinkStore.mem_id m))) (sym c.mark_entry.ensures.marked) c.loop-root.invariant.mem;
      bound = few_next _ _ _ _ _ _ _ _ _ _ (2 ^ 48) t c.arity.ensures.few c.in-Some.ensures.there.0 fresh;
    }

pub returns-in-None-clause-spread : goal.returns-in-None-clause-spread
returns-in-None-clause-spread g c =
    let t = spreading_on _ _ _ _ _ _ _ _ _ _ _ _ c.loop-root.invariant.walk.1 c.seek-stand.ensures.sought c.seek-stand.ensures.halts.inside in
    some_listed _ _ _ g.S.LinkStore.atom_id _ _ _ _ _ _ _ t c.loop-root.invariant.walk.2

pub returns-in-None-clause-fits : goal.returns-in-None-clause-fits
returns-in-None-clause-fits g c =
    let t = spreading_on _ _ _ _ _ _ _ _ _ _ _ _ c.loop-root.invariant.walk.1 c.seek-stand.ensures.sought c.seek-stand.ensures.halts.inside in
    let l : c.seek-stand.result.port < arity_of (g.S.LinkStore.heap c.loop-root.store) (g.S.LinkStore.atom_id c.seek-stand.result.atom) = let h = c.seek-stand.ensures.halts.inside in omega (arith, h) in
    (λ w. absurd (false_not_true w), λ f. absurd (unjoined _ _ _ _ _ _ _ _ _ t c.in-None.ensures.link l (c.seek-stand.ensures.halts.apart l) f))
