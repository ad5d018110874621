-- The innermost of the open brackets is the last one.
use Rattle.std.proofs.Common.{◌≡◌, ℕ, zero, suc, ◌-◌, ◌<◌, List, [], ◌∷◌, ◌++◌, length, reverse, take, slice_get, Some, ◌∙◌, ap, arith}
use Rattle.std.proofs.lemmas.List.{reverse-append}

snoc_of : {X : Type 0} → (xs : List X) (n : ℕ) (x : X) → slice_get xs n ≡ Some x → length xs ≡ suc n → xs ≡ take n xs ++ x ∷ []
snoc_of [] n x h l = cc
snoc_of (y ∷ []) zero x h l = cc
snoc_of (y ∷ z ∷ xs) zero x h l = absurd (omega (arith, l))
snoc_of (y ∷ xs) (suc n) x h l = ap (λ zs. y ∷ zs) (snoc_of xs n x h (omega (arith, l)))

-- the last of a list is the first from behind
pub last_first : {X : Type 0} → (xs : List X) (x : X) → 0 < length xs → slice_get xs (length xs - 1) ≡ Some x → reverse xs ≡ x ∷ reverse (take (length xs - 1) xs)
last_first xs x m h =
    let l : length xs ≡ suc (length xs - 1) = omega (arith, m) in
    ap reverse (snoc_of xs (length xs - 1) x h l) ∙ reverse-append (take (length xs - 1) xs) (x ∷ [])
