-- What isn't out of range is in range.
use Rattle.std.proofs.Common.{◌≡◌, ◌≢◌, ℕ, ◌-◌, ◌^◌, ◌<◌, ◌⊎◌, inl, inr, List, [], ◌∷◌, arith}
use Rattle.std.proofs.lemmas.Bool.{cases_order}
use Rattle.lmn_lexer.specs.Faults.{SpelledInRange, value_behind}
use Rattle.lmn_base.proofs.Numbers.{at_most_by_not as at_most}

-- the bytes of an integer
pub in_range : (bytes : List ℕ) → ((SpelledInRange bytes → ⊥) → ⊥) → SpelledInRange bytes
in_range [] h = absurd (h (λ r. r))
in_range (b ∷ bs) h = elim (cases_order b 45) [
  | inl same ↦ inl (same, at_most (value_behind 0 bs) (2 ^ 63) (λ more. h (λ r. below same more r)))
  | inr other ↦ inr (unequal other, at_most (value_behind 0 (b ∷ bs)) (2 ^ 63 - 1) (λ more. h (λ r. above (unequal other) more r)))
]
  where
    unequal : (b < 45) ⊎ (45 < b) → b ≢ 45
    unequal (inl l) e = omega arith
    unequal (inr l) e = omega arith

    below : b ≡ 45 → 2 ^ 63 < value_behind 0 bs → SpelledInRange (b ∷ bs) → ⊥
    below same more (inl (e, l)) = omega arith
    below same more (inr (e, l)) = e same

    above : b ≢ 45 → 2 ^ 63 - 1 < value_behind 0 (b ∷ bs) → SpelledInRange (b ∷ bs) → ⊥
    above other more (inl (e, l)) = other e
    above other more (inr (e, l)) = omega arith
