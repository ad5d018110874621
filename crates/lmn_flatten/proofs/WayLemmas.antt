-- Ways that lead apart.
use Rattle.std.proofs.Common.{◌≡◌, ◌≢◌, ℕ, ◌<◌, List, [], ◌∷◌, ◌++◌, length, refl, sym, ap, ◌∙◌, arith}
use Rattle.std.proofs.lemmas.List.{append_assoc, length-append}
use Rattle.lmn_flatten.specs.Growing.{Within, within_first, within_later, Argument, first_argument, later_argument}
use Rattle.lmn_flatten.specs.Scopes.{Below, Under}
use Rattle.lmn_base.proofs.Lists.{same_step}

-- ways below different steps differ
pub below_apart : (way v : List ℕ) (j k : ℕ) → j ≢ k → Below (j ∷ way) v → Below (k ∷ way) v → ⊥
below_apart way v j k d a b = d (same_step a.0 b.0 j k way (sym a.1 ∙ b.1))

-- what is below a step is below the way
pub below_step : (way v : List ℕ) (k : ℕ) → Below (k ∷ way) v → Below way v
below_step way v k b = (b.0 ++ k ∷ [], b.1 ∙ sym (append_assoc b.0 (k ∷ []) way))

-- what is under a way is below it
pub under_below : (way v : List ℕ) → Under way v → Below way v
under_below way v u = below_step way v u.0 u.1

-- what leads on from a step leads on
pub under_step : (way v : List ℕ) (k : ℕ) → Under (k ∷ way) v → Under way v
under_step way v k u = (k, under_below (k ∷ way) v u)

-- ways under different steps differ
pub under_apart : (way v : List ℕ) (j k : ℕ) → j ≢ k → Under (j ∷ way) v → Under (k ∷ way) v → ⊥
under_apart way v j k d a b = below_apart way v j k d (under_below (j ∷ way) v a) (under_below (k ∷ way) v b)

under_longer : (way v : List ℕ) → Under way v → length way < length v
under_longer way v u = omega (arith, ap length u.1.1, length-append u.1.0 (u.0 ∷ way))

-- a step is under the way, and not under a step of the same length
pub step_under : (way : List ℕ) (k : ℕ) → Under way (k ∷ way)
step_under way k = (k, ([], refl))

-- a step is not under another one
pub no_step_under : (way v : List ℕ) (j k : ℕ) → v ≡ j ∷ way → Under (k ∷ way) v → ⊥
no_step_under way v j k e u = omega (arith, under_longer (k ∷ way) v u, ap length e)

-- arguments

-- the way of an argument is below some step
pub argument_below : {way v : List ℕ} → Argument way v → (k : ℕ) × Below (k ∷ way) v
argument_below first_argument = (0, ([], refl))
argument_below {way} {v} (later_argument a) = let b = argument_below a in (1, below_step (1 ∷ way) v b.0 b.1)

-- and under its way
pub argument_under : {way v : List ℕ} → Argument way v → Under way v
argument_under a = argument_below a

-- what is within a way is under it
pub within_under : {way v : List ℕ} → Within way v → Under way v
within_under {way} {v} (within_first u) = under_step way v 0 u
within_under {way} {v} (within_later w) = under_step way v 1 (within_under w)

-- no argument is within it
pub argument_apart : {way v : List ℕ} → Argument way v → Within way v → ⊥
argument_apart {way} first_argument (within_first u) = no_step_under way (0 ∷ way) 0 0 refl u
argument_apart {way} first_argument (within_later w) = no_step_under way (0 ∷ way) 0 1 refl (within_under w)
argument_apart {way} {v} (later_argument a) (within_first u) = under_apart way v 1 0 (λ e. cc) (argument_under a) u
argument_apart (later_argument a) (within_later w) = argument_apart a w
