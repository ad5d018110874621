-- Contexts of heads in small heaps.
use Rattle.std.proofs.Common.{true, false, ℕ, zero, suc, ◌≡◌, ◌⊎◌, [], ◌∷◌, Some, slice_get, refl, sym, ◌∙◌, ap, subst, inl, inr, arith}
use Rattle.lmn_store_heap.specs.Heap.{atoms_in, functor_of, link_of, mems_in, rules_in}
use Rattle.lmn_solid_heads.specs.declared.items.HeadItem.TheVariants.{Membrane}
use Rattle.lmn_solid_heads.specs.Embeddings.{Images, Embeds, IsAtomImage, IsInPart, IsInRest}
use Rattle.lmn_solid_heads.specs.Examples.{a_of_arity, a_in_membrane, filled_membrane, through_the_wall, a_with_b_inside, rest_in_membrane, ContextsTakeTheRest, ClosedRestsAreClosed}
use Rattle.lmn_solid_heads.specs.Heads.{HeadAtom, HeadMembrane}
use Rattle.lmn_solid_heads.proofs.Found.{found_none, found_one}
use Rattle.lmn_solid_heads.proofs.ExampleLinks.{as_they_are, four_five, not_a_name, true_or_false}
use Rattle.std.proofs.lemmas.Option.{same_Some}
use Rattle.lmn_base.specs.Graphs.{Port}
use Rattle.lmn_base.specs.Lists.{In}

abbrev both : HeadMembrane
both = record { inside = 0; has_context = true; has_closed_context = false; has_rule_context = true }

lies : Embeds filled_membrane (a_in_membrane (Membrane 0 true false true)) [] 0 as_they_are
lies = record {
  lies = record {
    here = refl;
    atoms_differ = λ n k i j e. e;
    membranes_differ = λ n k i j e. omega (arith, e);
    functors = λ n s h. functors n s (found_one n h);
    atoms_placed = λ n s h. placed n s (found_one n h);
    membranes_placed = λ k n h. inner h.0 k n h.1 (found_one h.0 h.2);
    joined = λ x p q h k d. absurd (no_links x p h.0 (found_one p.0 h.1) h.2);
    no_other_atom = λ k n y h c q. absurd (true_or_false (ap (λ w. w.has_context) (found_one h.0 h.2).1 ∙ c));
    no_other_membrane = λ k n y h c q. absurd (true_or_false (ap (λ w. w.has_context) (found_one h.0 h.2).1 ∙ c));
    no_rule = λ k n h c. absurd (true_or_false (ap (λ w. w.has_rule_context) (found_one h.0 h.2).1 ∙ c));
    closed = λ k n b i p h c. absurd (true_or_false (sym c ∙ sym (ap (λ w. w.has_closed_context) (found_one h.0 h.2).1)));
    parts = λ n t h. absurd (found_none n h);
  };
  outside = λ n i x s p h l o inside q w. no_links x (n, i) s (found_one n h) l;
  holds = tt;
}
  where
    functors : (n : ℕ) (s : HeadAtom) → (n ≡ 0) × (record { functor = a_of_arity 0; links = []; inside = 1 } ≡ s) → functor_of filled_membrane n ≡ Some s.functor
    functors n s u = rw (u.0, sym u.1) refl

    placed : (n : ℕ) (s : HeadAtom) → (n ≡ 0) × (record { functor = a_of_arity 0; links = []; inside = 1 } ≡ s) → In n (atoms_in filled_membrane s.inside)
    placed n s u = rw (u.0, sym u.1) (inl refl)

    inner : (i k : ℕ) (n : HeadMembrane) → k ≡ suc i → (i ≡ 0) × (both ≡ n) → In k (mems_in filled_membrane n.inside)
    inner i k n e u = rw (e, u.0, sym u.1) (inl refl)

    no_links : (x : ℕ) (p : Port) (s : HeadAtom) → (p.0 ≡ 0) × (record { functor = a_of_arity 0; links = []; inside = 1 } ≡ s) → slice_get s.links p.1 ≡ Some x → ⊥
    no_links x p s u l = found_none p.1 (subst (λ w. slice_get w.links p.1 ≡ Some x) (sym u.1) l)

one : {n : ℕ} → In n (1 ∷ []) → n ≡ 1
one (inl r) = sym r
one (inr r) = absurd r

-- `a_of_arity` lies at atom 0
first : (n : ℕ) → functor_of filled_membrane n ≡ Some (a_of_arity 0) → n ≡ 0
first zero q = refl
first (suc zero) q = absurd (four_five (not_a_name 5 4 _ _ q refl refl))
first (suc (suc n)) q = absurd (cc q)

too_many_atoms : (f : Images) → Embeds filled_membrane (a_in_membrane (Membrane 0 false false true)) [] 0 f → ⊥
too_many_atoms f e = by (e.lies.no_other_atom 1 _ 1 (0, refl, refl) refl (rw membrane (inr (inl refl))))
  where
    membrane : f.membrane 1 ≡ 1
    membrane = one (subst (λ m. In (f.membrane 1) (mems_in filled_membrane m)) e.lies.here (e.lies.membranes_placed 1 _ (0, refl, refl)))

    by : IsAtomImage (a_in_membrane (Membrane 0 false false true)) f 1 ⊎ IsInPart filled_membrane (a_in_membrane (Membrane 0 false false true)) f 1 1 → ⊥
    by (inl u) =
        let zero_first : u.0 ≡ 0 = omega (arith, u.1) in
        let at : f.atom 0 ≡ 1 = subst (λ n. f.atom n ≡ 1) zero_first u.2 in
        absurd (omega (arith, at, first (f.atom 0) (e.lies.functors 0 _ refl)))
    by (inr u) = found_none u.0 u.2

one_rule_too_many : (f : Images) → Embeds filled_membrane (a_in_membrane (Membrane 0 true false false)) [] 0 f → ⊥
one_rule_too_many f e = cc (subst (λ m. rules_in filled_membrane m ≡ []) membrane (e.lies.no_rule 1 _ (0, refl, refl) refl))
  where
    membrane : f.membrane 1 ≡ 1
    membrane = one (subst (λ m. In (f.membrane 1) (mems_in filled_membrane m)) e.lies.here (e.lies.membranes_placed 1 _ (0, refl, refl)))

-- ---- a closed context

abbrev closed_only : HeadMembrane
closed_only = record { inside = 0; has_context = true; has_closed_context = true; has_rule_context = false }

closed_lies : Embeds a_with_b_inside rest_in_membrane [] 0 as_they_are
closed_lies = record {
  lies = record {
    here = refl;
    atoms_differ = λ n k i j e. e;
    membranes_differ = λ n k i j e. omega (arith, e);
    functors = λ n s h. absurd (found_none n h);
    atoms_placed = λ n s h. absurd (found_none n h);
    membranes_placed = λ k n h. inner h.0 k n h.1 (found_one h.0 h.2);
    joined = λ x p q h k d. absurd (found_none p.0 h.1);
    no_other_atom = λ k n y h c q. absurd (true_or_false (ap (λ w. w.has_context) (found_one h.0 h.2).1 ∙ c));
    no_other_membrane = λ k n y h c q. absurd (true_or_false (ap (λ w. w.has_context) (found_one h.0 h.2).1 ∙ c));
    no_rule = λ k n h c. no_rules h.0 k h.1 (found_one h.0 h.2).0;
    closed = λ k n b i p h c u q. rest_of h.0 k b i p h.1 (found_one h.0 h.2).0 u q;
    parts = λ n t h. absurd (found_none n h);
  };
  outside = λ n i x s p h. absurd (found_none n h);
  holds = tt;
}
  where
    inner : (i k : ℕ) (n : HeadMembrane) → k ≡ suc i → (i ≡ 0) × (closed_only ≡ n) → In k (mems_in a_with_b_inside n.inside)
    inner i k n e u = rw (e, u.0, sym u.1) (inl refl)

    no_rules : (i k : ℕ) → k ≡ suc i → i ≡ 0 → rules_in a_with_b_inside k ≡ []
    no_rules i k e u = rw (e, u) refl

    in_rest : (y : ℕ) → In y (0 ∷ 1 ∷ []) → IsInRest a_with_b_inside rest_in_membrane as_they_are 1 y
    in_rest y q = inl (q, (λ u. absurd (omega (arith, u.1))), (λ u. found_none u.0 u.2))

    partner_of : (b i : ℕ) (p : Port) → In b (0 ∷ 1 ∷ []) → link_of a_with_b_inside b i ≡ Some p → In p.0 (0 ∷ 1 ∷ [])
    partner_of b i p (inl r) q = from_first i (subst (λ w. link_of a_with_b_inside w i ≡ Some p) (sym r) q)
      where
        from_first : (i : ℕ) → link_of a_with_b_inside 0 i ≡ Some p → In p.0 (0 ∷ 1 ∷ [])
        from_first zero q = inr (inl (ap (λ w. w.0) (same_Some (1, 0) p q)))
        from_first (suc i) q = absurd (cc q)
    partner_of b i p (inr (inl r)) q = from_second i (subst (λ w. link_of a_with_b_inside w i ≡ Some p) (sym r) q)
      where
        from_second : (i : ℕ) → link_of a_with_b_inside 1 i ≡ Some p → In p.0 (0 ∷ 1 ∷ [])
        from_second zero q = inl (ap (λ w. w.0) (same_Some (0, 0) p q))
        from_second (suc i) q = absurd (cc q)
    partner_of b i p (inr (inr r)) q = absurd r

    rest_of : (j k b i : ℕ) (p : Port) → k ≡ suc j → j ≡ 0 → IsInRest a_with_b_inside rest_in_membrane as_they_are k b → link_of a_with_b_inside b i ≡ Some p → IsInRest a_with_b_inside rest_in_membrane as_they_are k p.0
    rest_of j k b i p e z u q =
        let one : k ≡ 1 = e ∙ ap suc z in
        subst (λ w. IsInRest a_with_b_inside rest_in_membrane as_they_are w p.0) (sym one) (by (subst (λ w. IsInRest a_with_b_inside rest_in_membrane as_they_are w b) one u))
      where
        by : IsInRest a_with_b_inside rest_in_membrane as_they_are 1 b → IsInRest a_with_b_inside rest_in_membrane as_they_are 1 p.0
        by (inl w) = in_rest p.0 (partner_of b i p w.0 q)
        by (inr w) = absurd w.1

not_closed : (f : Images) → Embeds through_the_wall rest_in_membrane [] 0 f → ⊥
not_closed f e = by (e.lies.closed 1 closed_only 0 0 (1, 0) (0, refl, refl) refl (inl (rw membrane (inl refl), (λ u. absurd (omega (arith, u.1))), (λ u. found_none u.0 u.2))) refl)
  where
    membrane : f.membrane 1 ≡ 1
    membrane = one (subst (λ m. In (f.membrane 1) (mems_in through_the_wall m)) e.lies.here (e.lies.membranes_placed 1 closed_only (0, refl, refl)))

    only : In 1 (0 ∷ []) → ⊥
    only (inl r) = omega (arith, r)
    only (inr r) = r

    by : IsInRest through_the_wall rest_in_membrane f 1 1 → ⊥
    by (inl w) = only (subst (λ m. In 1 (atoms_in through_the_wall m)) membrane w.0)
    by (inr w) = absurd (subst (λ m. In w.0 (mems_in through_the_wall m)) membrane w.1)

-- in the example a closed context takes a rest that no link leaves
pub closed_rests_are_closed : ClosedRestsAreClosed
closed_rests_are_closed = ((as_they_are, closed_lies), (λ l. not_closed l.0 l.1))

-- in the example contexts take what is left
pub contexts_take_the_rest : ContextsTakeTheRest
contexts_take_the_rest = ((as_they_are, lies), (λ l. too_many_atoms l.0 l.1), (λ l. one_rule_too_many l.0 l.1))
