-- Sums of a weight over lists of numbers.
use Rattle.std.proofs.Common.{ℕ, ◌+◌, ◌≡◌, ◌≢◌, ◌==◌, Bool, true, false, cond, List, [], ◌∷◌, length, map, refl, sym, ap, subst, ◌∙◌, inl, inr, arith}
use Rattle.std.specs.Prelude.{sum}
use Rattle.std.proofs.lemmas.Bool.{eqb-true, eq-eqb}
use Rattle.std.proofs.lemmas.List.Sums.{sum-map, sum_by-cons}
use Rattle.lmn_store_heap.specs.Lists.{Distinct, without, without_all}
use Rattle.lmn_store_heap.proofs.ListLemmas.{each_in, in_without}
use Rattle.lmn_store_heap.proofs.Listing.{in_without_of, distinct_without}
use Rattle.lmn_store_heap.proofs.Pigeonholes.{length_without}
use Rattle.lmn_store_heap.proofs.Groves.{without_absent}
use Rattle.lmn_base.proofs.Lists.{weigh as total}
use Rattle.lmn_store_heap.proofs.Common.{in_of_without}
use Rattle.lmn_base.specs.Lists.{In}

-- the total of the weights is their sum
pub total_is_sum : (w : ℕ → ℕ) (xs : List ℕ) → sum (map w xs) ≡ total w xs
total_is_sum w [] = refl
total_is_sum w (x ∷ xs) = sum-map w (x ∷ xs) ∙ sum_by-cons w x xs ∙ ap (λ n. w x + n) (sym (sum-map w xs) ∙ total_is_sum w xs)

-- weights that are the same on a list
pub total_same : (w u : ℕ → ℕ) (xs : List ℕ) → ((x : ℕ) → In x xs → w x ≡ u x) → total w xs ≡ total u xs
total_same w u [] h = refl
total_same w u (x ∷ xs) h = let a = h x (inl refl) in let r = total_same w u xs (λ y i. h y (inr i)) in omega arith

-- a total of nothing is 0
pub total_none : (w : ℕ → ℕ) (xs : List ℕ) → ((x : ℕ) → In x xs → w x ≡ 0) → total w xs ≡ 0
total_none w [] h = refl
total_none w (x ∷ xs) h = let a = h x (inl refl) in let r = total_none w xs (λ y i. h y (inr i)) in omega arith

-- a total of ones is the length
pub total_ones : (xs : List ℕ) → total (λ x. 1) xs ≡ length xs
total_ones [] = refl
total_ones (x ∷ xs) = let r = total_ones xs in omega arith

-- the total of two weights together is the sum of both totals
pub total_plus : (w u : ℕ → ℕ) (xs : List ℕ) → total (λ x. w x + u x) xs ≡ total w xs + total u xs
total_plus w u [] = refl
total_plus w u (x ∷ xs) = let r = total_plus w u xs in omega arith

-- a total of images is one of their weights
pub total_mapped : (w f : ℕ → ℕ) (xs : List ℕ) → total w (map f xs) ≡ total (λ x. w (f x)) xs
total_mapped w f [] = refl
total_mapped w f (x ∷ xs) = ap (λ n. w (f x) + n) (total_mapped w f xs)

-- the weight of one element, and that of the others
pub total_without : (w : ℕ → ℕ) (x : ℕ) (ys : List ℕ) → In x ys → total w ys ≡ w x + total w (without x ys)
total_without w x [] i = absurd i
total_without w x (y ∷ ys) i = by (y == x) refl (total_without w x ys)
  where
    by : (t : Bool) → (y == x) ≡ t → (In x ys → total w ys ≡ w x + total w (without x ys)) → w y + total w ys ≡ w x + total w (cond t ys (y ∷ without x ys))
    by true e on = ap (λ z. w z + total w ys) (eqb-true y x e)
    by false e on = elim i [
      | inl s ↦ absurd (let a : (y == x) ≡ true = eq-eqb y x s in let b : false ≡ true = sym e ∙ a in cc)
      | inr j ↦ (let r = on j in omega arith)
    ]

-- Lists without repeats, where all of one stand in the other, and what else stands there has no weight.
pub total_part : (w : ℕ → ℕ) (xs ys : List ℕ) → Distinct xs → Distinct ys → ((x : ℕ) → In x xs → In x ys) → ((y : ℕ) → In y ys → (In y xs → ⊥) → w y ≡ 0) → total w xs ≡ total w ys
total_part w [] ys dx dy sub rest = sym (total_none w ys (λ y i. rest y i (λ j. j)))
total_part w (x ∷ xs) ys dx dy sub rest =
    let at : In x ys = sub x (inl refl) in
    let on = total_part w xs (without x ys) dx.1 (distinct_without x ys dy)
    (λ z i. in_without x z ys (sub z (inr i)) (λ e. each_in (λ y. x ≢ y) xs z dx.0 i (sym e)))
    (λ z i o. let u = in_without_of x z ys dy i in rest z u.0 (λ j. elim j [ inl e ↦ u.1 (sym e) | inr k ↦ o k ])) in
    ap (λ n. w x + n) on ∙ sym (total_without w x ys at)

-- Taking out of lists

-- a number that stands in one of the lists is taken out
one_out : (a y : ℕ) (lists : ℕ → List ℕ) (at : List ℕ) → Distinct at → In y at → In a (lists y) → ((z : ℕ) → In a (lists z) → z ≡ y)
    → total (λ x. length (lists x)) at ≡ 1 + total (λ x. length (without a (lists x))) at
one_out a y lists [] d i j once = absurd i
one_out a y lists (x ∷ xs) d (inl e) j once =
    let here = length_without a (lists x) (subst (λ z. In a (lists z)) (sym e) j) in
    let rest = total_same (λ x. length (lists x)) (λ x. length (without a (lists x))) xs
    (λ z i. ap (λ zs. length zs) (sym (without_absent a (lists z) (λ k. each_in (λ u. x ≢ u) xs z d.0 i (e ∙ sym (once z k)))))) in
    omega arith
one_out a y lists (x ∷ xs) d (inr i) j once =
    let here : length (without a (lists x)) ≡ length (lists x) = ap (λ zs. length zs) (without_absent a (lists x) (λ k. each_in (λ u. x ≢ u) xs y d.0 i (once x k))) in
    let rest = one_out a y lists xs d.1 i j once in
    omega arith

-- Each of these numbers stands in one list, and all are taken out.
pub all_out : (ns : List ℕ) (lists : ℕ → List ℕ) (at : List ℕ) → Distinct ns → Distinct at → ((a : ℕ) → In a ns → (y : ℕ) × In y at × In a (lists y) × ((z : ℕ) → In a (lists z) → z ≡ y))
    → total (λ x. length (lists x)) at ≡ length ns + total (λ x. length (without_all ns (lists x))) at
all_out [] lists at dn d h = nothing (total (λ x. length (lists x)) at)
  where
    nothing : (n : ℕ) → n ≡ 0 + n
    nothing n = omega arith
all_out (a ∷ ns) lists at dn d h =
    let w = h a (inl refl) in
    let first = one_out a w.0 lists at d w.1 w.2 w.3 in
    let rest = all_out ns (λ x. without a (lists x)) at dn.1 d (λ b i. let u = h b (inr i) in (
      u.0,
      u.1,
      in_without a b (lists u.0) u.2 (λ e. each_in (λ z. a ≢ z) ns b dn.0 i (sym e)),
      λ z k. u.3 z (in_of_without a b (lists z) k),
    )) in
    omega arith

-- sums of weights
pub total_three : (a b c : ℕ → ℕ) (xs : List ℕ) → total (λ x. a x + b x + c x) xs ≡ total a xs + total b xs + total c xs
total_three a b c [] = refl
total_three a b c (x ∷ xs) = let r = total_three a b c xs in omega arith

-- a total of five weights is the sum of five totals
pub total_five : (a b c d e : ℕ → ℕ) (xs : List ℕ) → total (λ x. a x + (b x + c x) + (d x + e x)) xs ≡ total a xs + total b xs + total c xs + total d xs + total e xs
total_five a b c d e [] = refl
total_five a b c d e (x ∷ xs) = let r = total_five a b c d e xs in omega arith

-- Numbers of a list are taken out of it.
pub total_withouts : (w : ℕ → ℕ) (ns xs : List ℕ) → Distinct ns → ((a : ℕ) → In a ns → In a xs) → total w xs ≡ total w ns + total w (without_all ns xs)
total_withouts w [] xs d sub = nothing (total w xs)
  where
    nothing : (n : ℕ) → n ≡ 0 + n
    nothing n = omega arith
total_withouts w (a ∷ ns) xs d sub =
    let first = total_without w a xs (sub a (inl refl)) in
    let rest = total_withouts w ns (without a xs) d.1 (λ b i. in_without a b xs (sub b (inr i)) (λ e. each_in (λ z. a ≢ z) ns b d.0 i (sym e))) in
    omega arith
