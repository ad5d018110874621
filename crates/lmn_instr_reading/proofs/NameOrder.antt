-- Lists of names that go on from one list.
use Rattle.std.proofs.Common.{◌≡◌, ◌≢◌, ◌<◌, ◌+◌, ◌⊎◌, inl, inr, ℕ, suc, List, [], ◌∷◌, AllPairs, length, map, take, get_or, sym, ap, ◌∙◌, subst, arith}
use Rattle.std.proofs.lemmas.List.{get_or-take, take-append-le, take_all, take_more_same}
use Rattle.lmn_base.proofs.Common.{numbers_grow, numbers_head, all_met as none_put}
use Rattle.lmn_base.proofs.Lists.{head_is, tail_is}
use Rattle.lmn_base.specs.Links.{Numbers, no_more, known, new}
use Rattle.lmn_instr_reading.specs.NameOrder.{ListsInOrderAreOne, NameOrderExamples}
use Rattle.lmn_instr_reading.specs.Reading.{AddsNames}

abbrev Once : List (List ℕ) → Type 0
Once names = AllPairs (λ m n. m ≢ n) names

-- a number below those of which two lists are alike tells one name
alike_at : (n i : ℕ) (a b : List (List ℕ)) → take n a ≡ take n b → i < n → get_or a i [] ≡ get_or b i []
alike_at n i a b e l = sym (get_or-take n a i [] l) ∙ ap (λ xs. get_or xs i []) e ∙ get_or-take n b i [] l

-- so what is new in the one is new in the other
new_too : (n i j : ℕ) (a b : List (List ℕ)) → take n a ≡ take n b → Once b → i < n → j ≡ n → n < length b → get_or a i [] ≡ get_or b j [] → ⊥
new_too n i j a b e once l is within same =
    once i j [] (omega (arith, l, is)) (omega (arith, is, within)) (sym (alike_at n i a b e l) ∙ same)

-- the same names are put to two lists that are alike so far
alike_on : (n : ℕ) (a b : List (List ℕ)) (ns ms : List ℕ) → take n a ≡ take n b → Once a → Once b → Numbers n ns (length a) → Numbers n ms (length b)
    → map (λ i. get_or a i []) ns ≡ map (λ i. get_or b i []) ms → a ≡ b
alike_on n a b [] [] e o p h g same =
    let x = none_put h in
    let y = none_put g in
    sym (take_all n a (omega (arith, x))) ∙ e ∙ take_all n b (omega (arith, y))
alike_on n a b [] (j ∷ ms) e o p h g same = absurd (cc)
alike_on n a b (i ∷ ns) [] e o p h g same = absurd (cc)
alike_on n a b (i ∷ ns) (j ∷ ms) e o p h g same =
    by (numbers_head h) (numbers_head g) (alike_on n a b ns ms e o p) (λ f. alike_on (suc n) a b ns ms f o p)
  where
    Rest : ℕ → Type 0
    Rest m = Numbers m ns (length a) → Numbers m ms (length b) → map (λ i. get_or a i []) ns ≡ map (λ i. get_or b i []) ms → a ≡ b

    by : ((i < n) × Numbers n ns (length a)) ⊎ ((i ≡ n) × Numbers (suc n) ns (length a)) → ((j < n) × Numbers n ms (length b)) ⊎ ((j ≡ n) × Numbers (suc n) ms (length b))
        → Rest n → (take (suc n) a ≡ take (suc n) b → Rest (suc n)) → a ≡ b
    by (inl (l, x)) (inl (m, y)) same_too more = same_too x y (tail_is same)
    by (inl (l, x)) (inr (is, y)) same_too more = let w = numbers_grow y in absurd (new_too n i j a b e p l is (omega (arith, w)) (head_is same))
    by (inr (is, x)) (inl (m, y)) same_too more = let w = numbers_grow x in absurd (new_too n j i b a (sym e) o m is (omega (arith, w)) (sym (head_is same)))
    by (inr (is, x)) (inr (at, y)) same_too more =
        let w = numbers_grow x in
        let z = numbers_grow y in
        let here : get_or a n [] ≡ get_or b n [] = ap (λ k. get_or a k []) (sym is) ∙ head_is same ∙ ap (λ k. get_or b k []) at in
        let next : n + 1 ≡ suc n = omega arith in
        more (subst (λ k. take k a ≡ take k b) next (take_more_same a b n [] (omega (arith, w)) (omega (arith, z)) e here)) x y (tail_is same)

-- two lists that go on from one list are one where the same names were put in order
pub lists_in_order_are_one : ListsInOrderAreOne
lists_in_order_are_one k l before later other ns ms a b once also h g same =
    alike_on (length before) later other ns ms (begins k before later a ∙ sym (begins l before other b)) once also h g same
  where
    begins : (k : ℕ) (before later : List (List ℕ)) → AddsNames k before later → take (length before) later ≡ before
    begins k before later a = ap (take (length before)) a.are ∙ take-append-le (length before) before a.more (omega arith) ∙ take_all (length before) before (omega arith)

-- names in order, and some that aren't
pub name_order_examples : NameOrderExamples
name_order_examples = (new (known (omega arith) (new (known (omega arith) no_more))), late, few)
  where
    late : Numbers 1 (2 ∷ 1 ∷ []) 3 → ⊥
    late h = by (numbers_head h)
      where
        by : ((2 < 1) × Numbers 1 (1 ∷ []) 3) ⊎ (◌≡◌ {A = ℕ} 2 1 × Numbers 2 (1 ∷ []) 3) → ⊥
        by (inl (l, x)) = omega (arith, l)
        by (inr (e, x)) = omega (arith, e)

    few : Numbers 1 (1 ∷ 0 ∷ []) 3 → ⊥
    few h = by (numbers_head h)
      where
        last : (n : ℕ) → ((0 < n) × Numbers n [] 3) ⊎ ((0 ≡ n) × Numbers (suc n) [] 3) → n < 3 → 0 < n → ⊥
        last n (inl (l, x)) m o = let e = none_put x in omega (arith, e, m)
        last n (inr (e, x)) m o = omega (arith, e, o)

        by : ((1 < 1) × Numbers 1 (0 ∷ []) 3) ⊎ (◌≡◌ {A = ℕ} 1 1 × Numbers 2 (0 ∷ []) 3) → ⊥
        by (inl (l, x)) = omega (arith, l)
        by (inr (e, x)) = last 2 (numbers_head x) (omega arith) (omega arith)
