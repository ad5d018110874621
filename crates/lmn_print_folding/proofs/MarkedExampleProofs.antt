-- What holds of the examples of own marks.
use Rattle.std.proofs.Common.{◌≡◌, ◌⊎◌, ℕ, [], ◌∷◌, refl, sym, subst, inl, inr, arith}
use Rattle.lmn_print_folding.specs.Children.{IsChildAt, DescendsAt, itself, child, IsItemBefore}
use Rattle.lmn_print_folding.specs.MarkedExamples.{marked_last_ports, marked_circle, TermIsMarked, ChildIsNoFirstItem, TermIsNoLaterItem, LaterItemIsMarked, TermIsNotBeforeItsItem}
use Rattle.lmn_store_heap.specs.Heap.{own_mark}
use Rattle.lmn_store_heap.proofs.Common.{same_port}
use Rattle.lmn_base.specs.Lists.{In}

-- what holds of both atoms holds of each
both : (P : ℕ → Type 0) → P 0 → P 1 → (a : ℕ) → In a (0 ∷ 1 ∷ []) → P a
both P p q a (inl e) = subst P e p
both P p q a (inr (inl e)) = subst P e q
both P p q a (inr (inr h)) = absurd h

-- In `a(X), b(X)` the atom 1 is a child of the other,
last_child : (v w : ℕ) → IsChildAt (marked_last_ports v w) 0 1 0 0
last_child v w = record { child = inr (inl refl); parent = inl refl; ports = omega arith; joined = refl; other = λ e. absurd (omega (arith, e)); before = inr (inl refl) }

-- which is the child of none.
first_is_no_child : (v w p k : ℕ) → IsChildAt (marked_last_ports v w) 0 0 p k → ⊥
first_is_no_child v w p k c =
    let same = same_port c.joined in
    let Child : ℕ → ℕ → Type 0 = IsChildAt (marked_last_ports v w) 0 0 in
    none (subst (λ q. Child q 0) (sym same.0) (subst (Child p) (sym same.1) c))
  where
    none : IsChildAt (marked_last_ports v w) 0 0 1 0 → ⊥
    none c = elim c.before [ inl d ↦ d refl | inr h ↦ h ]

-- of two atoms joined by their last ports the later one is a term
pub term_is_marked : TermIsMarked
term_is_marked = record {
  each = both (λ a. (own_mark (marked_last_ports 1 3) a ≡ 1) ⊎ (own_mark (marked_last_ports 1 3) a ≡ 2) ⊎ (own_mark (marked_last_ports 1 3) a ≡ 3)) (inl refl) (inr (inr refl));
  first = first;
  later_child = λ a i e. absurd (no_later a i e);
  later = λ a i h e b d. no_later a h e;
  term = both (λ a. own_mark (marked_last_ports 1 3) a ≡ 3 → (i : ℕ) × IsItemBefore (marked_last_ports 1 3) 0 a i × DescendsAt (marked_last_ports 1 3) 0 i a) (λ e. absurd (omega (arith, e))) (λ e. (0, (inl refl, inl refl), child itself (last_child 1 3)));
}
  where
    no_later : (a : ℕ) → In a (0 ∷ 1 ∷ []) → own_mark (marked_last_ports 1 3) a ≡ 2 → ⊥
    no_later = both (λ a. own_mark (marked_last_ports 1 3) a ≡ 2 → ⊥) (λ e. absurd (omega (arith, e))) (λ e. absurd (omega (arith, e)))

    first : (a p k : ℕ) → own_mark (marked_last_ports 1 3) a ≡ 1 → IsChildAt (marked_last_ports 1 3) 0 a p k → ⊥
    first a p k e c =
        both (λ a. own_mark (marked_last_ports 1 3) a ≡ 1 → IsChildAt (marked_last_ports 1 3) 0 a p k → ⊥) (λ e d. first_is_no_child 1 3 p k d) (λ e d. absurd (omega (arith, e))) a c.child e c

-- and no item as one that is no child
pub child_is_no_first_item : ChildIsNoFirstItem
child_is_no_first_item h = h.first 1 0 0 refl (last_child 1 1)

-- nor a later one
pub term_is_no_later_item : TermIsNoLaterItem
term_is_no_later_item h = h.later 1 0 (inr (inl refl)) refl (inl refl, inl refl) (child itself (last_child 1 2))

-- In `c(X,Y), d(Y,X)` each is a child of the other.
in_the_second : (v w : ℕ) → IsChildAt (marked_circle v w) 0 0 1 0
in_the_second v w = record { child = inl refl; parent = inr (inl refl); ports = omega arith; joined = refl; other = λ e. absurd (omega (arith, e)); before = inl (λ e. absurd (omega (arith, e))) }

in_the_first : (v w : ℕ) → IsChildAt (marked_circle v w) 0 1 0 0
in_the_first v w = record { child = inr (inl refl); parent = inl refl; ports = omega arith; joined = refl; other = λ e. absurd (omega (arith, e)); before = inl (λ e. absurd (omega (arith, e))) }

-- in a circle the first atom is the item
pub later_item_is_marked : LaterItemIsMarked
later_item_is_marked = record {
  each = both (λ a. (own_mark (marked_circle 2 3) a ≡ 1) ⊎ (own_mark (marked_circle 2 3) a ≡ 2) ⊎ (own_mark (marked_circle 2 3) a ≡ 3)) (inr (inl refl)) (inr (inr refl));
  first = λ a p k e c. no_first a c.child e;
  later_child = both (λ a. own_mark (marked_circle 2 3) a ≡ 2 → (p : ℕ) × (k : ℕ) × IsChildAt (marked_circle 2 3) 0 a p k) (λ e. (1, 0, in_the_second 2 3)) (λ e. absurd (omega (arith, e)));
  later = λ a i h e b d. later i a h e b;
  term = both (λ a. own_mark (marked_circle 2 3) a ≡ 3 → (i : ℕ) × IsItemBefore (marked_circle 2 3) 0 a i × DescendsAt (marked_circle 2 3) 0 i a) (λ e. absurd (omega (arith, e)))
      (λ e. (0, (inl refl, inr (refl, inl refl)), child itself (in_the_first 2 3)));
}
  where
    no_first : (a : ℕ) → In a (0 ∷ 1 ∷ []) → own_mark (marked_circle 2 3) a ≡ 1 → ⊥
    no_first = both (λ a. own_mark (marked_circle 2 3) a ≡ 1 → ⊥) (λ e. absurd (omega (arith, e))) (λ e. absurd (omega (arith, e)))

    -- no item stands before the first atom
    none_before : (i : ℕ) → In i (0 ∷ 1 ∷ []) → IsItemBefore (marked_circle 2 3) 0 0 i → ⊥
    none_before = both (λ i. IsItemBefore (marked_circle 2 3) 0 0 i → ⊥)
        (λ b. elim b.1 [ inl e ↦ absurd (omega (arith, e)) | inr w ↦ elim w.1 [ inl e ↦ absurd (omega (arith, e)) | inr h ↦ h ] ])
        (λ b. elim b.1 [ inl e ↦ absurd (omega (arith, e)) | inr w ↦ (let e = w.0 in absurd (omega (arith, e))) ])

    later : (i a : ℕ) → In a (0 ∷ 1 ∷ []) → own_mark (marked_circle 2 3) a ≡ 2 → IsItemBefore (marked_circle 2 3) 0 a i → ⊥
    later i = both (λ a. own_mark (marked_circle 2 3) a ≡ 2 → IsItemBefore (marked_circle 2 3) 0 a i → ⊥) (λ e b. none_before i b.0 b) (λ e b. absurd (omega (arith, e)))

-- in a circle the second atom is no item
pub term_is_not_before_its_item : TermIsNotBeforeItsItem
term_is_not_before_its_item h = let t = h.term 0 (inl refl) refl in none_before t.0 t.1.0 t.1
  where
    none_before : (i : ℕ) → In i (0 ∷ 1 ∷ []) → IsItemBefore (marked_circle 3 2) 0 0 i → ⊥
    none_before = both (λ i. IsItemBefore (marked_circle 3 2) 0 0 i → ⊥)
        (λ b. elim b.1 [ inl e ↦ absurd (omega (arith, e)) | inr w ↦ (let e = w.0 in absurd (omega (arith, e))) ])
        (λ b. elim b.1 [ inl e ↦ absurd (omega (arith, e)) | inr w ↦ w.1 ])
