-- How many slots of a table are taken.
use Rattle.std.proofs.Common.{ℕ, zero, suc, ◌≡◌, ◌≢◌, ◌+◌, ◌↔◌, List, [], ◌∷◌, length, Option, Some, None, IsSome, refl, arith, subst, inl, inr}
use Rattle.std.specs.Prelude.{cond, is_some, count_by, slice_index_or}
use Rattle.std.proofs.lemmas.List.Sums.{sum_by-cons}
use Rattle.lmn_base.specs.Lists.{In}
use Rattle.lmn_store_heap.specs.Lists.{Distinct}
use Rattle.lmn_store_heap.proofs.ListLemmas.{each_of}
use Rattle.lmn_store_heap.proofs.Pigeonholes.{not_longer}

module _ {X : Type 0} where
  -- the numbers of the slots that are taken, where the first slot has the number k
  abbrev numbers_from : ℕ → List (Option X) → List ℕ
  numbers_from k [] = []
  numbers_from k (None ∷ xs) = numbers_from (suc k) xs
  numbers_from k (Some x ∷ xs) = k ∷ numbers_from (suc k) xs

  as_many : (k : ℕ) (xs : List (Option X)) → length (numbers_from k xs) ≡ count_by is_some xs
  as_many k [] = refl
  as_many k (None ∷ xs) = let r = as_many (suc k) xs in let s = sum_by-cons (λ (o : Option X). cond (is_some o) 1 0) None xs in omega (arith, r, s)
  as_many k (Some x ∷ xs) = let r = as_many (suc k) xs in let s = sum_by-cons (λ (o : Option X). cond (is_some o) 1 0) (Some x) xs in omega (arith, r, s)

  taken_at : (k n : ℕ) (xs : List (Option X)) → In n (numbers_from k xs) → (i : ℕ) × (n ≡ k + i) × IsSome (slice_index_or xs i None)
  taken_at k n [] t = absurd t
  taken_at k n (None ∷ xs) t = let w = taken_at (suc k) n xs t in let e = w.1 in (suc w.0, omega (arith, e), w.2)
  taken_at k n (Some x ∷ xs) (inl e) = (zero, omega (arith, e), refl)
  taken_at k n (Some x ∷ xs) (inr t) = let w = taken_at (suc k) n xs t in let e = w.1 in (suc w.0, omega (arith, e), w.2)

  number_of : (k i : ℕ) (xs : List (Option X)) → IsSome (slice_index_or xs i None) → In (k + i) (numbers_from k xs)
  number_of k i [] t = absurd (cc)
  number_of k zero (None ∷ xs) t = absurd (cc)
  number_of k (suc i) (None ∷ xs) t = let e : suc k + i ≡ k + suc i = omega arith in subst (λ n. In n (numbers_from (suc k) xs)) e (number_of (suc k) i xs t)
  number_of k zero (Some x ∷ xs) t = inl (omega arith)
  number_of k (suc i) (Some x ∷ xs) t = let e : suc k + i ≡ k + suc i = omega arith in inr (subst (λ n. In n (numbers_from (suc k) xs)) e (number_of (suc k) i xs t))

  each_once : (k : ℕ) (xs : List (Option X)) → Distinct (numbers_from k xs)
  each_once k [] = tt
  each_once k (None ∷ xs) = each_once (suc k) xs
  each_once k (Some x ∷ xs) = (
    each_of (λ y. k ≢ y) (numbers_from (suc k) xs) (λ a t e. (let w = taken_at (suc k) a xs t in let f = w.1 in absurd (omega (arith, e, f)))),
    each_once (suc k) xs,
  )

  -- Numbers of which each stands once, and which are those of the slots that are taken, are as many as these.
  pub slots_taken : (xs : List (Option X)) (ts : List ℕ) → Distinct ts → ((n : ℕ) → In n ts ↔ IsSome (slice_index_or xs n None)) → count_by is_some xs ≡ length ts
  slots_taken xs ts once same =
      let s = as_many 0 xs in
      let x = not_longer (numbers_from 0 xs) ts (each_once 0 xs) (λ b t. (let w = taken_at 0 b xs t in let e : w.0 ≡ b = (let f = w.1 in omega (arith, f)) in (same b).1 (subst (λ n. IsSome (slice_index_or xs n None)) e w.2))) in
      let y = not_longer ts (numbers_from 0 xs) once (λ b t. (let e : 0 + b ≡ b = omega arith in subst (λ n. In n (numbers_from 0 xs)) e (number_of 0 b xs ((same b).0 t)))) in
      omega (arith, s, x, y)
