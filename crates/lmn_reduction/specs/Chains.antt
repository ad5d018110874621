-- Chains of steps, and of commits.
use Rattle.std.specs.Prelude.{ℕ, ◌+◌}
use Rattle.lmn_congruence.specs.Process.{Process}
use Rattle.lmn_reduction.specs.Commits.{Commit}

-- a chain of n steps of a relation
pub data Chain {A : Type 0} (R : A → A → Type 0) (x : A) : ℕ → A → Type 0 where
  no_step : Chain R x 0 x
  step_after : {n : ℕ} {y z : A} → Chain R x n y → R y z → Chain R x (n + 1) z

-- n commits, one after another
abbrev pub Commits : ℕ → Process → Process → Type 0
Commits n P Q = Chain Commit P n Q
