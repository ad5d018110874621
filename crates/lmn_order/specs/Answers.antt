-- Closures that answer below their second argument.
use Rattle.std.specs.Prelude.{ℕ, ◌<◌, ◌^◌}

-- The closure f may be asked at each t and each m but 0, both of 64 bits, and its answer is below m. `pre` and `post` are
-- those of its bound.
pub record AnswersBelow {F : Type 0} (pre : F → ℕ → ℕ → Type 0) (post : F → ℕ → ℕ → ℕ → Type 0) (f : F) : Type 0 where
  pub callable : (t m : ℕ) → t < 2 ^ 64 → m < 2 ^ 64 → 0 < m → pre f t m
  pub below : (t m r : ℕ) → t < 2 ^ 64 → m < 2 ^ 64 → 0 < m → post f t m r → r < m
