use Rattle.std.proofs.Common.{sym, subst, ◌∙◌, ap, map, ℕ, List}
use Rattle.lmn_store_heap.specs.Heap.{Heap}
use Rattle.lmn_ground.specs.Deeds.{CanDo, all_done}
use Rattle.lmn_ground_parts.specs.Copies.{AllAtoms}
use Rattle.lmn_ground.proofs.TrailLaws.{seen_before, seen_once, seen_there, seen_unmarked}
use Rattle.lmn_ground.proofs.undo.undo.Goals as goal

pub wipe-requires-clause-spread : goal.wipe-requires-clause-spread
wipe-requires-clause-spread g c = let s = c.requires.spread in (s.0, s.1, s.2, s.4)

pub clear-requires : goal.clear-requires
clear-requires g c =
    let s = c.requires.spread in
    record { there = seen_there _ _ _ _ _ s.2 _ (s.3.all (sym c.len.ensures ∙ c.if-len-count.false)) }

pub act_all-requires-clause-there : goal.act_all-requires-clause-there
act_all-requires-clause-there g c =
    let s = c.requires.spread in
    let e = s.3.all (sym c.len.ensures ∙ c.if-len-count.false) in
    subst (λ (h : Heap). AllAtoms h (map g.S.LinkStore.atom_id c.args.trail.now)) (sym (c.clear.ensures ∙ seen_unmarked _ _ _ _ _ s.2 _ e)) (seen_before _ _ _ _ _ s.2 _ e)

pub act_all-requires-clause-once : goal.act_all-requires-clause-once
act_all-requires-clause-once g c =
    let s = c.requires.spread in
    seen_once _ _ _ _ _ s.2 _ (s.3.all (sym c.len.ensures ∙ c.if-len-count.false))

pub act_all-requires-clause-can : goal.act_all-requires-clause-can
act_all-requires-clause-can g c =
    let s = c.requires.spread in
    let e = s.3.all (sym c.len.ensures ∙ c.if-len-count.false) in
    subst (λ (h : Heap). CanDo c.args.deed (map g.S.LinkStore.atom_id c.args.trail.now) h) (sym (c.clear.ensures ∙ seen_unmarked _ _ _ _ _ s.2 _ e))
    (subst (λ (xs : List ℕ). CanDo c.args.deed xs s.0) (sym e) s.4)

pub returns-then-len-count : goal.returns-then-len-count
returns-then-len-count g c = λ before all t trail. c.wipe.ensures before all t

pub returns : goal.returns
returns g c = λ before all t trail.
    let e = trail.all (sym c.len.ensures ∙ c.if-len-count.false) in
    c.act_all.ensures ∙ ap (all_done c.args.deed _) (c.clear.ensures ∙ seen_unmarked _ _ _ _ _ t _ e) ∙ ap (λ (xs : List ℕ). all_done c.args.deed xs before) e
