-- Lists without repeats: one that lies in another isn't longer, and one that isn't shorter has all of it.
use Rattle.std.proofs.Common.{ℕ, suc, ◌≡◌, ◌≢◌, ◌≤◌, inl, inr, List, [], ◌∷◌, refl, arith, ap, sym, length}
use Rattle.std.specs.Prelude.{Bool, true, false, ◌==◌, if◌then◌else◌}
use Rattle.std.proofs.lemmas.Bool.Decides.{Decides-eqb}
use Rattle.lmn_store_heap.specs.Lists.{Distinct, without}
use Rattle.lmn_store_heap.proofs.ListLemmas.{each_in, in_without}
use Rattle.lmn_base.proofs.Numbers.{same_or_not as number_cases}
use Rattle.lmn_base.specs.Lists.{In}

length_by : (x y : ℕ) (ys : List ℕ) (b : Bool) → (y == x) ≡ b → (In x ys → length ys ≡ suc (length (without x ys))) → In x (y ∷ ys) →
    suc (length ys) ≡ suc (length (if b then ys else y ∷ without x ys))
length_by x y ys true t later s = refl
length_by x y ys false t later (inl e) = let u = (Decides-eqb y x).1 e in absurd (cc)
length_by x y ys false t later (inr s) = ap suc (later s)

-- a list with an element out is one shorter
pub length_without : (x : ℕ) (ys : List ℕ) → In x ys → length ys ≡ suc (length (without x ys))
length_without x [] s = absurd s
length_without x (y ∷ ys) s = length_by x y ys (y == x) refl (length_without x ys) s

-- a list without repeats that lies in one that is no longer has all of it
pub has_all : (xs ys : List ℕ) → Distinct xs → ((b : ℕ) → In b xs → In b ys) → length ys ≤ length xs → (b : ℕ) → In b ys → In b xs
has_all [] [] d sub l b s = s
has_all [] (y ∷ ys) d sub l b s = absurd (omega arith)
has_all (x ∷ xs) ys d sub l b s =
    let k = length_without x ys (sub x (inl refl)) in
    elim (number_cases b x) [
      | inl e ↦ inl (sym e)
      | inr n ↦ inr (has_all xs (without x ys) d.1 (λ z t. in_without x z ys (sub z (inr t)) (λ e. each_in (λ y. x ≢ y) xs z d.0 t (sym e))) (omega (arith, k)) b (in_without x b ys s n))
    ]

-- a list without repeats that lies in another isn't longer
pub not_longer : (xs ys : List ℕ) → Distinct xs → ((b : ℕ) → In b xs → In b ys) → length xs ≤ length ys
not_longer [] ys d sub = omega arith
not_longer (x ∷ xs) ys d sub =
    let k = length_without x ys (sub x (inl refl)) in
    let l = not_longer xs (without x ys) d.1 (λ z t. in_without x z ys (sub z (inr t)) (λ e. each_in (λ y. x ≢ y) xs z d.0 t (sym e))) in
    omega (arith, k, l)
