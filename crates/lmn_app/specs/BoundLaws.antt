-- What weights say of a program they say in one way.
use Rattle.std.specs.Prelude.{◌≡◌, ◌⊎◌, ◌↔◌, ℕ, List, None}
use Rattle.lmn_base.specs.declared.refusal.Refusal.{Refusal}
use Rattle.lmn_weight.specs.declared.weights.Weights.{Weights}
use Rattle.lmn_weight.specs.Lines.{AreWeightsOf}
use Rattle.lmn_weight.specs.Plains.{EachLowered}
use Rattle.lmn_app.specs.Bounds.{IsBound, IsWrongWeights}
use Rattle.lmn_app.specs.Seconds.{ReadsBoth}
use Rattle.lmn_app_single.specs.Texts.{IsAccepted}

-- weights bound a program by one number at most
abbrev pub OneBound : Type 0
OneBound = (program weights : List ℕ) (n m : ℕ) → IsBound program weights n → IsBound program weights m → n ≡ m

-- weights that bound it aren't refused beside it
abbrev pub BoundNotRefused : Type 0
BoundNotRefused = (program weights : List ℕ) (n : ℕ) (refusal : Refusal) → IsBound program weights n → ¬ (IsWrongWeights program weights refusal)

-- they have one refusal at most
abbrev pub OneWrongWeights : Type 0
OneWrongWeights = (program weights : List ℕ) (refusal other : Refusal) → IsWrongWeights program weights refusal → IsWrongWeights program weights other → refusal ≡ other

-- an accepted program is bounded by weights, or they are refused beside it
abbrev pub BoundOrRefused : Type 0
BoundOrRefused = (program weights : List ℕ) → IsAccepted None program → ((n : ℕ) × IsBound program weights n) ⊎ ((refusal : Refusal) × IsWrongWeights program weights refusal)

-- Weights bound a program exactly where every rule of it is lowered, by whatever list of names they are read.
abbrev pub BoundWhereLowered : Type 0
BoundWhereLowered = (program weights : List ℕ) (of : ReadsBoth program weights) (by : Weights) → AreWeightsOf of.later weights by
    → (((n : ℕ) × IsBound program weights n) ↔ EachLowered by of.plain of.plans)
