-- Parts of lists by numbers.
use Rattle.std.proofs.Common.{ℕ, zero, suc, ◌≡◌, ◌≤◌, ◌+◌, List, [], ◌∷◌, ◌++◌, length, Some, ap, ◌∙◌, refl, arith}
use Rattle.std.specs.Prelude.{slice_get, take, drop}
use Rattle.lmn_base.proofs.Numbers.{take_none}

-- what stands in the list from a place on
pub get_drop : (xs : List ℕ) (i a : ℕ) → slice_get (drop i xs) a ≡ slice_get xs (i + a)
get_drop xs zero a = ap (slice_get xs) (let z : a ≡ 0 + a = omega arith in z)
get_drop [] (suc i) a = refl
get_drop (x ∷ xs) (suc i) a = get_drop xs i a ∙ ap (slice_get (x ∷ xs)) (let z : suc (i + a) ≡ suc i + a = omega arith in z)

-- the elements before one, and it
pub take_one_more : (xs : List ℕ) (a m : ℕ) → slice_get xs a ≡ Some m → take (suc a) xs ≡ take a xs ++ (m ∷ [])
take_one_more [] a m e = absurd (cc)
take_one_more (x ∷ xs) zero m e = let s : x ≡ m = (cc) in ap (λ z. z ∷ []) s
take_one_more (x ∷ xs) (suc a) m e = ap (λ z. x ∷ z) (take_one_more xs a m e)

-- all is taken
pub take_whole : (xs : List ℕ) (a : ℕ) → length xs ≤ a → take a xs ≡ xs
take_whole [] a l = take_none a
take_whole (x ∷ xs) zero l = absurd (omega (arith, l))
take_whole (x ∷ xs) (suc a) l = ap (λ z. x ∷ z) (take_whole xs a (omega (arith, l)))
