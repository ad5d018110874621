-- What stands at an index of a short list.
use Rattle.std.proofs.Common.{ℕ, zero, suc, ◌≡◌, [], ◌∷◌, Some, slice_get, refl}
use Rattle.std.proofs.lemmas.Option.{same_Some}

-- in an empty list nothing is found
pub found_none : {A : Type 0} {x : A} (n : ℕ) → slice_get [] n ≡ Some x → ⊥
found_none n e = cc e

-- in a list of one only that is found, in front
pub found_one : {A : Type 0} {x y : A} (n : ℕ) → slice_get (x ∷ []) n ≡ Some y → (n ≡ 0) × (x ≡ y)
found_one zero e = (refl, same_Some _ _ e)
found_one (suc n) e = absurd (found_none n e)
