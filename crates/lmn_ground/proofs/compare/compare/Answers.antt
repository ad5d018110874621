use Rattle.std.proofs.Common.{refl, ◌≡◌, ◌<◌, ◌+◌, ◌-◌, ◌^◌, arith, sym, ◌∙◌}
use Rattle.lmn_store_heap.specs.Heap.{arity_of}
use Rattle.lmn_ground_parts.specs.Walks.{net}
use Rattle.lmn_ground.specs.Marks.{first_marks}
use Rattle.lmn_ground.proofs.SpreadLaws.{there_after, few_next, not_root}
use Rattle.lmn_ground.proofs.FollowLaws.{follow_first, follow_root, follow_past, follow_enter, follow_done, both_none, number_differs, next_differs, functor_differs, marked_seen}
use Rattle.lmn_ground.proofs.CompareLaws.{back_lighter, enter_lighter, still_there, there_first, compare_some, end_here, port_here, at_root, not_at_root, entry_end, entry_here, back_on, back_differs, back_none}
use Rattle.lmn_base.proofs.Truth.{false_not_true, never_both}
use Rattle.lmn_ground.proofs.compare.compare.Goals as goal

pub loop-at-init : goal.loop-at-init
loop-at-init g c =
    let t = c.requires.two in
    let w = follow_first _ _ _ _ _ t.2 _ t.3 c.mark_entry.ensures.marked c.requires.clean c.requires.x.1 c.mark_entry.ensures.small c.requires.alike in
    record {
      atom = there_after _ _ _ _ _ _ c.mark_entry.ensures.marked c.requires.x.1;
      answer = there_first _ _ _ _ _ _ _ _ _ _ _ _ _ w c.requires.y;
      walk = (_, _, _, t.2, w);
      bound = omega arith;
    }

pub returns-then-at-eq0-clause-spread : goal.returns-then-at-eq0-clause-spread
returns-then-at-eq0-clause-spread g c = let t = c.loop-at.invariant.walk in compare_some _ _ _ _ _ _ _ _ _ _ _ _ t.3 t.4

pub returns-then-at-eq0-clause-equal : goal.returns-then-at-eq0-clause-equal
returns-then-at-eq0-clause-equal g c =
    let t = c.loop-at.invariant.walk in
    (λ _. follow_done _ _ _ _ _ t.3 _ _ _ _ _ _ _ t.4 c.if-at-eq0.true (c.if-at-arity.true ∙ c.arity.ensures.arity), λ _. refl)

pub both_ends-requires-clause-end : goal.both_ends-requires-clause-end
both_ends-requires-clause-end g c = let t = c.loop-at.invariant.walk in entry_end _ _ _ _ _ _ _ _ _ _ _ _ t.3 t.4 c.mark.result c.mark.ensures (omega arith)

pub returns-then-not-same_number-clause-spread : goal.returns-then-not-same_number-clause-spread
returns-then-not-same_number-clause-spread g c = let t = c.loop-at.invariant.walk in compare_some _ _ _ _ _ _ _ _ _ _ _ _ t.3 t.4

pub returns-then-not-same_number-clause-equal : goal.returns-then-not-same_number-clause-equal
returns-then-not-same_number-clause-equal g c =
    let t = c.loop-at.invariant.walk in (
      λ f. absurd (false_not_true f),
      λ s. absurd (back_differs _ _ _ _ _ _ _ _ _ _ _ _ t.3 t.4 c.mark.result c.mark.ensures (omega arith) _ _ _ c.in-Some.ensures.link c.in-Some.ensures.end
          (λ k. never_both _ (c.same_number.ensures.1 k) c.if-not-same_number.true) s),
    )

pub loop-at-smaller-in-Some : goal.loop-at-smaller-in-Some
loop-at-smaller-in-Some g c =
    let e : c.loop-at.at.depth ≡ (c.loop-at.at.depth - 1) + 1 = omega arith in
    back_lighter (net (g.S.LinkStore.heap c.loop-at.store)) (first_marks (g.S.LinkStore.heap c.loop-at.store)) (2 ^ 48 - c.loop-at.count) _ _ _ c.loop-at.at.port _ _ c.mark.result c.mark.ensures e c.in-Some.ensures.link

pub loop-at-preserved-in-Some : goal.loop-at-preserved-in-Some
loop-at-preserved-in-Some g c =
    let t = c.loop-at.invariant.walk in
    let e : c.loop-at.at.depth ≡ (c.loop-at.at.depth - 1) + 1 = omega arith in
    record {
      atom = c.in-Some.ensures.atom;
      answer = c.in-Some.ensures.end_atom;
      walk = (
        _,
        _,
        _,
        t.3,
        back_on _ _ _ _ _ _ _ _ _ _ _ _ t.3 t.4 c.mark.result c.mark.ensures (omega arith) _ _ _ _ e (c.if-at-arity.true ∙ c.arity.ensures.arity)
            c.in-Some.ensures.link c.in-Some.ensures.end c.in-Some.ensures.there (c.same_number.ensures.0 c.if-not-same_number.false),
      );
      bound = c.loop-at.invariant.bound;
    }

pub returns-in-None-clause-spread : goal.returns-in-None-clause-spread
returns-in-None-clause-spread g c = let t = c.loop-at.invariant.walk in compare_some _ _ _ _ _ _ _ _ _ _ _ _ t.3 t.4

pub returns-in-None-clause-equal : goal.returns-in-None-clause-equal
returns-in-None-clause-equal g c =
    let t = c.loop-at.invariant.walk in
    (λ f. absurd (false_not_true f), λ s. absurd (back_none _ _ _ _ _ _ _ _ _ _ _ _ t.3 t.4 c.mark.result c.mark.ensures (omega arith) (c.both_ends.ensures.none c.in-None.is) s))

pub loop-at-preserved-then-is_root : goal.loop-at-preserved-then-is_root
loop-at-preserved-then-is_root g c =
    let t = c.loop-at.invariant.walk in
    let h = port_here _ _ _ _ _ _ _ _ _ _ _ _ t.3 t.4 in
    let l : c.loop-at.at.port < arity_of (g.S.LinkStore.heap c.loop-at.store) (g.S.LinkStore.atom_id c.loop-at.at.atom) = omega (arith, h) in
    let is = c.is_root.ensures.0 c.if-is_root.true in
    record {
      atom = c.loop-at.invariant.atom;
      answer = c.loop-at.invariant.answer;
      walk = (_, _, _, t.3, follow_root _ _ _ _ _ t.3 _ _ _ _ _ _ _ t.4 l (at_root _ _ _ _ _ _ _ _ _ _ _ _ t.3 t.4 is.0 is.1));
      bound = c.loop-at.invariant.bound;
    }

pub both_ends-requires-else-is_root-clause-end : goal.both_ends-requires-else-is_root-clause-end
both_ends-requires-else-is_root-clause-end g c =
    let t = c.loop-at.invariant.walk in
    let h = port_here _ _ _ _ _ _ _ _ _ _ _ _ t.3 t.4 in
    let k = end_here _ _ _ _ _ _ _ _ _ _ _ _ t.3 t.4 in
    omega (arith, h, k)

pub returns-then-mark-count-clause-spread : goal.returns-then-mark-count-clause-spread
returns-then-mark-count-clause-spread g c = let t = c.loop-at.invariant.walk in compare_some _ _ _ _ _ _ _ _ _ _ _ _ t.3 t.4

pub returns-then-mark-count-clause-equal : goal.returns-then-mark-count-clause-equal
returns-then-mark-count-clause-equal g c =
    let t = c.loop-at.invariant.walk in
    let h = port_here _ _ _ _ _ _ _ _ _ _ _ _ t.3 t.4 in
    let e = c.in-Some-both_ends.ensures in
    let o = not_at_root _ _ _ _ _ _ _ _ _ _ _ _ t.3 t.4 (λ k. never_both _ (c.is_root.ensures.1 k) c.if-is_root.false) in (
      λ f. absurd (false_not_true f),
      λ s. absurd (next_differs _ _ _ _ _ t.3 _ _ _ _ _ _ _ t.4 _ _ _ (omega (arith, h)) o e.link e.end (sym c.mark-in-Some-both_ends.ensures ∙ c.if-mark-eq0.true)
          (λ k. let m = c.mark-then-mark-eq0.ensures in let z = c.if-mark-count.true in omega (arith, k, m, z)) s),
    )

pub returns-then-not-are_alike-clause-spread : goal.returns-then-not-are_alike-clause-spread
returns-then-not-are_alike-clause-spread g c = let t = c.loop-at.invariant.walk in compare_some _ _ _ _ _ _ _ _ _ _ _ _ t.3 t.4

pub returns-then-not-are_alike-clause-equal : goal.returns-then-not-are_alike-clause-equal
returns-then-not-are_alike-clause-equal g c =
    let t = c.loop-at.invariant.walk in
    let e = c.in-Some-both_ends.ensures in
    let o = not_at_root _ _ _ _ _ _ _ _ _ _ _ _ t.3 t.4 (λ k. never_both _ (c.is_root.ensures.1 k) c.if-is_root.false) in
    (λ f. absurd (false_not_true f), λ s. absurd (functor_differs _ _ _ _ _ t.3 _ _ _ _ _ _ _ t.4 _ _ _ o e.link e.end (λ k. never_both _ (c.are_alike.ensures.1 k) c.if-not-are_alike.true) s))

pub loop-at-smaller-then-mark-eq0 : goal.loop-at-smaller-then-mark-eq0
loop-at-smaller-then-mark-eq0 g c =
    let t = c.loop-at.invariant.walk in
    let h = port_here _ _ _ _ _ _ _ _ _ _ _ _ t.3 t.4 in
    let l : c.loop-at.at.port < arity_of (g.S.LinkStore.heap c.loop-at.store) (g.S.LinkStore.atom_id c.loop-at.at.atom) = omega (arith, h) in
    let e = c.in-Some-both_ends.ensures in
    let f = sym c.mark-in-Some-both_ends.ensures ∙ c.if-mark-eq0.true in
    enter_lighter _ _ _ _ _ _ _ _ _ _ _ _ (2 ^ 48) c.mark_entry-then-mark-eq0.ensures.marked t.4.walk c.arity.ensures.sound l e.back e.there c.mark_entry-then-mark-eq0.ensures.small e.small f
    (few_next _ _ _ _ _ _ _ _ _ _ (2 ^ 48) t.4.walk c.arity.ensures.few e.atom f)

pub loop-at-preserved-then-mark-eq0 : goal.loop-at-preserved-then-mark-eq0
loop-at-preserved-then-mark-eq0 g c =
    let t = c.loop-at.invariant.walk in
    let h = port_here _ _ _ _ _ _ _ _ _ _ _ _ t.3 t.4 in
    let l : c.loop-at.at.port < arity_of (g.S.LinkStore.heap c.loop-at.store) (g.S.LinkStore.atom_id c.loop-at.at.atom) = omega (arith, h) in
    let e = c.in-Some-both_ends.ensures in
    let o = not_at_root _ _ _ _ _ _ _ _ _ _ _ _ t.3 t.4 (λ k. never_both _ (c.is_root.ensures.1 k) c.if-is_root.false) in
    let f = sym c.mark-in-Some-both_ends.ensures ∙ c.if-mark-eq0.true in
    let n = c.mark-then-mark-eq0.ensures in
    let w = follow_enter _ _ _ _ _ t.3 _ _ _ _ _ _ _ t.4 _ _ _ _ c.mark_entry-then-mark-eq0.ensures.marked c.arity.ensures.sound c.requires.clean l o e.link e.back e.there c.mark_entry-then-mark-eq0.ensures.small e.end f
    (omega (arith, n)) (c.are_alike.ensures.0 c.if-not-are_alike.false) in
    record {
      atom = there_after _ _ _ _ _ _ c.mark_entry-then-mark-eq0.ensures.marked e.there;
      answer = still_there _ _ _ _ _ _ _ _ _ _ _ _ _ _ _ _ _ _ _ _ t.4 w e.end_atom;
      walk = (_, _, _, t.3, w);
      bound = few_next _ _ _ _ _ _ _ _ _ _ (2 ^ 48) t.4.walk c.arity.ensures.few e.atom f;
    }

pub returns-then-not-same_number-2-clause-spread : goal.returns-then-not-same_number-2-clause-spread
returns-then-not-same_number-2-clause-spread g c = let t = c.loop-at.invariant.walk in compare_some _ _ _ _ _ _ _ _ _ _ _ _ t.3 t.4

pub returns-then-not-same_number-2-clause-equal : goal.returns-then-not-same_number-2-clause-equal
returns-then-not-same_number-2-clause-equal g c =
    let t = c.loop-at.invariant.walk in
    let e = c.in-Some-both_ends.ensures in
    let o = not_at_root _ _ _ _ _ _ _ _ _ _ _ _ t.3 t.4 (λ k. never_both _ (c.is_root.ensures.1 k) c.if-is_root.false) in (
      λ f. absurd (false_not_true f),
      λ s. absurd (number_differs _ _ _ _ _ t.3 _ _ _ _ _ _ _ t.4 _ _ _ _ (not_root _ _ _ o) e.link e.end
          (marked_seen _ _ _ _ _ t.3 _ _ _ _ _ _ _ t.4 _ _ o e.link (λ z. c.if-mark-eq0.false (c.mark-in-Some-both_ends.ensures ∙ z)))
          (λ k. never_both _ (c.same_number-else-mark-eq0.ensures.1 k) c.if-not-same_number-2.true) s),
    )

pub loop-at-preserved : goal.loop-at-preserved
loop-at-preserved g c =
    let t = c.loop-at.invariant.walk in
    let h = port_here _ _ _ _ _ _ _ _ _ _ _ _ t.3 t.4 in
    let l : c.loop-at.at.port < arity_of (g.S.LinkStore.heap c.loop-at.store) (g.S.LinkStore.atom_id c.loop-at.at.atom) = omega (arith, h) in
    let e = c.in-Some-both_ends.ensures in
    let o = not_at_root _ _ _ _ _ _ _ _ _ _ _ _ t.3 t.4 (λ k. never_both _ (c.is_root.ensures.1 k) c.if-is_root.false) in
    record {
      atom = c.loop-at.invariant.atom;
      answer = c.loop-at.invariant.answer;
      walk = (_, _, _, t.3, follow_past _ _ _ _ _ t.3 _ _ _ _ _ _ _ t.4 _ _ _ l o e.link e.there e.end (λ z. c.if-mark-eq0.false (c.mark-in-Some-both_ends.ensures ∙ z)) (c.same_number-else-mark-eq0.ensures.0 c.if-not-same_number-2.false));
      bound = c.loop-at.invariant.bound;
    }

pub returns-in-None-both_ends-clause-spread : goal.returns-in-None-both_ends-clause-spread
returns-in-None-both_ends-clause-spread g c = let t = c.loop-at.invariant.walk in compare_some _ _ _ _ _ _ _ _ _ _ _ _ t.3 t.4

pub returns-in-None-both_ends-clause-equal : goal.returns-in-None-both_ends-clause-equal
returns-in-None-both_ends-clause-equal g c =
    let t = c.loop-at.invariant.walk in
    let h = port_here _ _ _ _ _ _ _ _ _ _ _ _ t.3 t.4 in
    let o = not_at_root _ _ _ _ _ _ _ _ _ _ _ _ t.3 t.4 (λ k. never_both _ (c.is_root.ensures.1 k) c.if-is_root.false) in
    (λ f. absurd (false_not_true f), λ s. absurd (both_none _ _ _ _ _ t.3 _ _ _ _ _ _ _ t.4 _ (omega (arith, h)) (not_root _ _ _ o) (c.both_ends-else-is_root.ensures.none c.in-None-both_ends.is) s))

pub both_ends-requires-clause-port : goal.both_ends-requires-clause-port
both_ends-requires-clause-port g c = let t = c.loop-at.invariant.walk in entry_here _ _ _ _ _ _ _ _ _ _ _ _ t.3 t.4 c.mark.result c.mark.ensures (omega arith)
