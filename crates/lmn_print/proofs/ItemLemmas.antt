-- The items of a membrane in printed order.
use Rattle.std.proofs.Common.{◌≡◌, ℕ, ◌==◌, inl, inr, ◌⊎◌, Bool, true, false, cond, List, [], ◌∷◌, ◌++◌, Option, Some, None, IfSome, refl, sym, ap, ◌∙◌, subst, arith}
use Rattle.std.specs.Prelude.{filter}
use Rattle.std.specs.Option.{option_map}
use Rattle.std.proofs.lemmas.Bool.{eq-eqb, eqb-true}
use Rattle.lmn_store_heap.specs.Heap.{Heap, atoms_in, own_mark}
use Rattle.lmn_store_heap.specs.Lists.{after, from}
use Rattle.lmn_store_heap.proofs.Trees.{next_in}
use Rattle.lmn_print_folding.specs.Marks.{is_item}
use Rattle.lmn_print_folding.specs.Chosen.{marked_in, items_in}
use Rattle.lmn_print_folding.proofs.Told.{item_mark as item_by, mark_item as item_cases}
use Rattle.lmn_base.specs.Lists.{In}
use Rattle.lmn_base.proofs.Lists.{in_either}
use Rattle.lmn_store_heap.proofs.Filters.{filter_after, filter_from, in_filter, filter_in}

-- What stands behind an element of two lists.
after_left : (a : ℕ) (xs ys : List ℕ) → In a xs → after a (xs ++ ys) ≡ after a xs ++ ys
after_left a [] ys i = absurd i
after_left a (x ∷ xs) ys i = by (x == a) refl (after_left a xs ys) i
  where
    by : (t : Bool) → (x == a) ≡ t → (In a xs → after a (xs ++ ys) ≡ after a xs ++ ys) → (x ≡ a) ⊎ In a xs → cond t (xs ++ ys) (after a (xs ++ ys)) ≡ cond t xs (after a xs) ++ ys
    by true e rest j = refl
    by false e rest (inl s) = let v : false ≡ true = sym e ∙ eq-eqb x a s in absurd (cc)
    by false e rest (inr j) = rest j

after_right : (a : ℕ) (xs ys : List ℕ) → (In a xs → ⊥) → after a (xs ++ ys) ≡ after a ys
after_right a [] ys d = refl
after_right a (x ∷ xs) ys d = by (x == a) refl (after_right a xs ys (λ i. d (inr i)))
  where
    by : (t : Bool) → (x == a) ≡ t → after a (xs ++ ys) ≡ after a ys → cond t (xs ++ ys) (after a (xs ++ ys)) ≡ after a ys
    by true e rest = absurd (d (inl (eqb-true x a e)))
    by false e rest = rest

-- No element of the second list is one of the first.
first_of_right : (o : Option ℕ) (xs ys : List ℕ) → IfSome o (λ a. In a xs → ⊥) → from o ys ≡ ys → from o (xs ++ ys) ≡ ys
first_of_right None xs ys d e = e
first_of_right (Some a) xs ys d e = ap (λ zs. a ∷ zs) (after_right a xs ys d) ∙ e

-- what holds of the number of what an option has
pub each_mapped : {A : Type 0} (id : A → ℕ) (P : ℕ → Type 0) (o : Option A) → IfSome o (λ a. P (id a)) → IfSome (option_map id o) P
each_mapped id P None h = tt
each_mapped id P (Some a) h = h

module _ (s : Heap) (m : ℕ) where
  abbrev test : ℕ → ℕ → Bool
  test k a = own_mark s a == k

  -- the first atom from one on that has the mark
  marked_here : (k a : ℕ) → own_mark s a ≡ k → from (Some a) (marked_in s k m) ≡ filter (test k) (from (Some a) (atoms_in s m))
  marked_here k a e = filter_from (test k) a (atoms_in s m) (eq-eqb (own_mark s a) k e)

  -- it is found from the first one on
  pub marked_found : {A : Type 0} (id : A → ℕ) (k : ℕ) (a : A) (now first : Option A) → now ≡ Some a → own_mark s (id a) ≡ k
      → filter (test k) (from (option_map id now) (atoms_in s m)) ≡ filter (test k) (from (option_map id first) (atoms_in s m))
      → from (Some (id a)) (marked_in s k m) ≡ filter (test k) (from (option_map id first) (atoms_in s m))
  marked_found id k a now first is e h = marked_here k (id a) e ∙ subst (λ o. filter (test k) (from (option_map id o) (atoms_in s m)) ≡ filter (test k) (from (option_map id first) (atoms_in s m))) is h

  not_before : (a : ℕ) → own_mark s a ≡ 2 → In a (marked_in s 1 m) → ⊥
  not_before a e i = let one = eqb-true (own_mark s a) 1 (in_filter (test 1) a (atoms_in s m) i).1 in absurd (omega (arith, e, one))

  later_apart : (o : Option ℕ) → IfSome o (λ a. own_mark s a ≡ 2) → IfSome o (λ a. In a (marked_in s 1 m) → ⊥)
  later_apart None h = h
  later_apart (Some a) h = not_before a h

  -- the next one with the same mark
  next_same : (k a : ℕ) (o next : Option ℕ) → own_mark s a ≡ k → from next (atoms_in s m) ≡ after a (atoms_in s m) → from o (marked_in s k m) ≡ filter (test k) (from next (atoms_in s m))
      → from o (marked_in s k m) ≡ after a (marked_in s k m)
  next_same k a o next e f h = h ∙ ap (filter (test k)) f ∙ sym (filter_after (test k) a (atoms_in s m) (eq-eqb (own_mark s a) k e))

  in_marked : (k a : ℕ) → In a (atoms_in s m) → own_mark s a ≡ k → In a (marked_in s k m)
  in_marked k a i e = filter_in (test k) a (atoms_in s m) i (eq-eqb (own_mark s a) k e)

  -- The item behind one with the mark 1 has this mark too,
  pub next_first : (a b : ℕ) (next : Option ℕ) → In a (atoms_in s m) → own_mark s a ≡ 1 → from next (atoms_in s m) ≡ after a (atoms_in s m)
      → from (Some b) (marked_in s 1 m) ≡ filter (test 1) (from next (atoms_in s m)) → from (Some b) (items_in s m) ≡ after a (items_in s m)
  next_first a b next i e f h =
      let same = next_same 1 a (Some b) next e f h in
      let xs = marked_in s 1 m in
      let ys = marked_in s 2 m in
      ap (λ zs. b ∷ zs) (after_left b xs ys (next_in a b xs same)) ∙ ap (λ zs. zs ++ ys) same ∙ sym (after_left a xs ys (in_marked 1 a i e))

  -- or there is none, and it is the first one with the mark 2.
  pub next_turns : (a : ℕ) (next start o : Option ℕ) → In a (atoms_in s m) → own_mark s a ≡ 1 → from next (atoms_in s m) ≡ after a (atoms_in s m)
      → from None (marked_in s 1 m) ≡ filter (test 1) (from next (atoms_in s m)) → from start (atoms_in s m) ≡ atoms_in s m
      → from o (marked_in s 2 m) ≡ filter (test 2) (from start (atoms_in s m)) → IfSome o (λ b. own_mark s b ≡ 2) → from o (items_in s m) ≡ after a (items_in s m)
  next_turns a next start o i e f h g k two =
      let same = next_same 1 a None next e f h in
      let xs = marked_in s 1 m in
      let ys = marked_in s 2 m in
      first_of_right o xs ys (later_apart o two) (k ∙ ap (filter (test 2)) g) ∙ sym (after_left a xs ys (in_marked 1 a i e) ∙ ap (λ zs. zs ++ ys) (sym same))

  after_later : (a : ℕ) (o : Option ℕ) → IfSome o (λ b. own_mark s b ≡ 2) → own_mark s a ≡ 2 → from o (marked_in s 2 m) ≡ after a (marked_in s 2 m) → from o (items_in s m) ≡ after a (items_in s m)
  after_later a None two e h = h ∙ sym (after_right a (marked_in s 1 m) (marked_in s 2 m) (not_before a e))
  after_later a (Some b) two e h =
      ap (λ zs. b ∷ zs) (after_right b (marked_in s 1 m) (marked_in s 2 m) (not_before b two)) ∙ h ∙ sym (after_right a (marked_in s 1 m) (marked_in s 2 m) (not_before a e))

  -- The item behind one with the mark 2 has this mark too.
  pub next_later : (a : ℕ) (o next : Option ℕ) → own_mark s a ≡ 2 → from next (atoms_in s m) ≡ after a (atoms_in s m)
      → from o (marked_in s 2 m) ≡ filter (test 2) (from next (atoms_in s m)) → IfSome o (λ b. own_mark s b ≡ 2) → from o (items_in s m) ≡ after a (items_in s m)
  next_later a o next e f h two = after_later a o two e (next_same 2 a o next e f h)

  -- The item behind one is found among those with its mark, k,
  pub next_some : (k a b : ℕ) (next : Option ℕ) → In a (atoms_in s m) → is_item s a ≡ true → k ≡ own_mark s a → from next (atoms_in s m) ≡ after a (atoms_in s m)
      → from (Some b) (marked_in s k m) ≡ filter (test k) (from next (atoms_in s m)) → own_mark s b ≡ k → from (Some b) (items_in s m) ≡ after a (items_in s m)
  next_some k a b next i item e f h same = elim (item_cases s a item) [
    | inl one ↦ next_first a b next i one f (subst (λ n. from (Some b) (marked_in s n m) ≡ filter (test n) (from next (atoms_in s m))) (e ∙ one) h)
    | inr two ↦ next_later a (Some b) next two f (subst (λ n. from (Some b) (marked_in s n m) ≡ filter (test n) (from next (atoms_in s m))) (e ∙ two) h) (same ∙ e ∙ two)
  ]

  -- or, where it is 1, among the others,
  pub next_turned : (k a : ℕ) (next start o : Option ℕ) → In a (atoms_in s m) → k ≡ own_mark s a → k ≡ 1 → from next (atoms_in s m) ≡ after a (atoms_in s m)
      → from None (marked_in s k m) ≡ filter (test k) (from next (atoms_in s m)) → from start (atoms_in s m) ≡ atoms_in s m
      → from o (marked_in s 2 m) ≡ filter (test 2) (from start (atoms_in s m)) → IfSome o (λ b. own_mark s b ≡ 2) → from o (items_in s m) ≡ after a (items_in s m)
  next_turned k a next start o i e one f h = next_turns a next start o i (sym e ∙ one) f (subst (λ n. from None (marked_in s n m) ≡ filter (test n) (from next (atoms_in s m))) one h)

  -- or there is none.
  pub next_none : (k a : ℕ) (next : Option ℕ) → is_item s a ≡ true → k ≡ own_mark s a → (k ≡ 1 → ⊥) → from next (atoms_in s m) ≡ after a (atoms_in s m)
      → from None (marked_in s k m) ≡ filter (test k) (from next (atoms_in s m)) → from None (items_in s m) ≡ after a (items_in s m)
  next_none k a next item e d f h = elim (item_cases s a item) [
    | inl one ↦ absurd (d (e ∙ one))
    | inr two ↦ next_later a None next two f (subst (λ n. from None (marked_in s n m) ≡ filter (test n) (from next (atoms_in s m))) (e ∙ two) h) tt
  ]

-- the items of a membrane are items
pub items_are : (s : Heap) (m a : ℕ) → In a (items_in s m) → is_item s a ≡ true
items_are s m a i = elim (in_either a (marked_in s 1 m) (marked_in s 2 m) i) [
  | inl j ↦ item_by s a (inl (eqb-true (own_mark s a) 1 (in_filter (λ b. own_mark s b == 1) a (atoms_in s m) j).1))
  | inr j ↦ item_by s a (inr (eqb-true (own_mark s a) 2 (in_filter (λ b. own_mark s b == 2) a (atoms_in s m) j).1))
]
