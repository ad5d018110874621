-- Numbers that take one list to another, and lists that are walked side by side.
use Rattle.std.proofs.Common.{◌≡◌, ◌≢◌, ◌∙◌, ◌==◌, ◌<◌, ℕ, suc, if◌then◌else◌, List, [], ◌∷◌, ◌++◌, length, map, refl, sym, ap, subst, inl, inr, arith}
use Rattle.std.specs.Prelude.{slice_index_or}
use Rattle.std.proofs.lemmas.Bool.{cases_eq}
use Rattle.lmn_base.specs.Lists.{In}
use Rattle.lmn_base.proofs.Common.{map_same}
use Rattle.lmn_base.proofs.Lists.{head_is, tail_is}
use Rattle.lmn_base.proofs.Numbers.{chosen_elsewhere, chosen_there}
use Rattle.lmn_store_heap.specs.Heap.{Distinct}
use Rattle.lmn_store_heap.proofs.ListLemmas.{each_in}
use Rattle.lmn_verify_renaming.specs.Renamed.{Numbering}
use Rattle.lmn_verify_renaming.proofs.Numbers.{in_there, one_to_one}

-- ---- a swap of two numbers

-- y for x, x for y, and any other as it is
pub swapped : ℕ → ℕ → ℕ → ℕ
swapped x y z = if z == x then y else (if z == y then x else z)

pub swap_first : (x y : ℕ) → swapped x y x ≡ y
unfolding swapped
swap_first x y = chosen_there x y (if x == y then x else x) x refl

swap_second : (x y : ℕ) → swapped x y y ≡ x
unfolding swapped
swap_second x y = elim (cases_eq y x) [
  | inl e ↦ chosen_there x y (if y == y then x else y) y e ∙ e
  | inr d ↦ chosen_elsewhere x y (if y == y then x else y) y d ∙ chosen_there y x y y refl
]

pub swap_else : (x y z : ℕ) → z ≢ x → z ≢ y → swapped x y z ≡ z
unfolding swapped
swap_else x y z d e = chosen_elsewhere x y (if z == y then x else z) z d ∙ chosen_elsewhere y x z z e

-- two swaps are none
pub swap_again : (x y z : ℕ) → swapped x y (swapped x y z) ≡ z
swap_again x y z = elim (cases_eq z x) [
  | inl e ↦ ap (λ w. swapped x y (swapped x y w)) e ∙ ap (swapped x y) (swap_first x y) ∙ swap_second x y ∙ sym e
  | inr d ↦ elim (cases_eq z y) [
    | inl e ↦ ap (λ w. swapped x y (swapped x y w)) e ∙ ap (swapped x y) (swap_second x y) ∙ swap_first x y ∙ sym e
    | inr f ↦ ap (swapped x y) (swap_else x y z d f) ∙ swap_else x y z d f
  ]
]

-- numbers that are then swapped
unfoldable pub swapping : Numbering → ℕ → ℕ → Numbering
swapping n x y = record {
  to = λ z. swapped x y (n.to z);
  back = λ z. n.back (swapped x y z);
  there = λ z. ap n.back (swap_again x y (n.to z)) ∙ n.there z;
  again = λ z. ap (swapped x y) (n.again (swapped x y z)) ∙ swap_again x y z;
}

-- ---- numbers that take one list to another

pub numbering_of : (xs ys : List ℕ) → Distinct xs → Distinct ys → length xs ≡ length ys → (n : Numbering) × (map n.to xs ≡ ys)
unfolding swapping
numbering_of [] [] d e l = (record { to = λ x. x; back = λ x. x; there = λ x. refl; again = λ x. refl }, refl)
numbering_of [] (y ∷ ys) d e l = absurd (omega (arith, l))
numbering_of (x ∷ xs) [] d e l = absurd (omega (arith, l))
numbering_of (x ∷ xs) (y ∷ ys) d e l =
    let w = numbering_of xs ys d.1 e.1 (omega (arith, l)) in
    let n = w.0 in
    let there : (z : ℕ) → In z xs → In (n.to z) ys = λ z i. subst (In (n.to z)) w.1 (in_there n z xs i) in
    let kept : (z : ℕ) → In z xs → swapped (n.to x) y (n.to z) ≡ n.to z = λ z i. swap_else (n.to x) y (n.to z)
    (λ same. each_in (λ b. x ≢ b) xs z d.0 i (sym (one_to_one n z x same)))
    (λ same. each_in (λ b. y ≢ b) ys (n.to z) e.0 (there z i) (sym same)) in
    (swapping n (n.to x) y, (λ i. swap_first (n.to x) y i ∷ (map_same (λ z. swapped (n.to x) y (n.to z)) n.to xs kept ∙ w.1) i))

-- ---- lists side by side

abbrev pub Two : (ℕ → ℕ → Type 0) → List ℕ → List ℕ → Type 0
Two R [] [] = Unit {0}
Two R [] (y ∷ ys) = ⊥
Two R (x ∷ xs) [] = ⊥
Two R (x ∷ xs) (y ∷ ys) = R x y × Two R xs ys

pub two_long : (R : ℕ → ℕ → Type 0) (xs ys : List ℕ) → Two R xs ys → length xs ≡ length ys
two_long R [] [] h = refl
two_long R [] (y ∷ ys) h = absurd h
two_long R (x ∷ xs) [] h = absurd h
two_long R (x ∷ xs) (y ∷ ys) h = ap suc (two_long R xs ys h.1)

pub two_both : (R : ℕ → ℕ → Type 0) (xs ys us vs : List ℕ) → Two R xs ys → Two R us vs → Two R (xs ++ us) (ys ++ vs)
two_both R [] [] us vs h g = g
two_both R [] (y ∷ ys) us vs h g = absurd h
two_both R (x ∷ xs) [] us vs h g = absurd h
two_both R (x ∷ xs) (y ∷ ys) us vs h g = (h.0, two_both R xs ys us vs h.1 g)

-- what holds of two that stand at one place holds of a number and the one that it is taken to
pub two_at : (R : ℕ → ℕ → Type 0) (f : ℕ → ℕ) (xs ys : List ℕ) → Two R xs ys → map f xs ≡ ys → (a : ℕ) → In a xs → R a (f a)
two_at R f [] ys h e a i = absurd i
two_at R f (x ∷ xs) [] h e a i = absurd h
two_at R f (x ∷ xs) (y ∷ ys) h e a (inl same) = subst (λ z. R z (f z)) same (subst (R x) (sym (head_is e)) h.0)
two_at R f (x ∷ xs) (y ∷ ys) h e a (inr i) = two_at R f xs ys h.1 (tail_is e) a i

-- lists that are as long and have the same at each place are one
pub same_list : {X : Type 0} (d : X) (xs ys : List X) → length xs ≡ length ys → ((i : ℕ) → i < length xs → slice_index_or xs i d ≡ slice_index_or ys i d) → xs ≡ ys
same_list d [] [] l h = refl
same_list d [] (y ∷ ys) l h = absurd (omega (arith, l))
same_list d (x ∷ xs) [] l h = absurd (omega (arith, l))
same_list d (x ∷ xs) (y ∷ ys) l h = λ i. h 0 (omega arith) i ∷ same_list d xs ys (omega (arith, l)) (λ j below. h (suc j) (omega (arith, below))) i
