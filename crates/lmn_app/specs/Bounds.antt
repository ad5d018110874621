-- What `bound` says of weights beside a program.
use Rattle.std.specs.Prelude.{◌≡◌, ◌≤◌, ℕ, List, [], ◌∷◌, codes, decimal}
use Rattle.std.specs.List.{concat}
use Rattle.lmn_base.specs.declared.refusal.Refusal.{Refusal}
use Rattle.lmn_congruence.specs.Process.{Process}
use Rattle.lmn_congruence.specs.Translation.{plain_process}
use Rattle.lmn_reduction.specs.Chains.{Commits}
use Rattle.lmn_reduction.specs.Commits.{Settles}
use Rattle.lmn_weight.specs.declared.weights.Weights.{Weights}
use Rattle.lmn_weight.specs.Lines.{AreWeightsOf, IsFirstWrongWeightLine}
use Rattle.lmn_weight.specs.Plains.{EachLowered, IsFirstNotLowered, level_weight}
use Rattle.lmn_app.specs.Seconds.{ReadsBoth}

-- Each rule of the program, those in rules too, is lowered by the weights, and n is what its top weighs. So no chain of commits
-- from what its process settles to has more of them, whatever is chosen.
pub record IsBound (program weights : List ℕ) (n : ℕ) : Type 0 where
  pub of : ReadsBoth program weights
  pub by : Weights
  pub are : AreWeightsOf of.later weights by
  pub lowered : EachLowered by of.plain of.plans
  pub weighs : n ≡ level_weight by [] [] of.plain.top
  pub bounds : (first last : Process) (commits : ℕ) → Settles (plain_process of.names of.plain) first → Commits commits first last → commits ≤ n

-- This is wrong in the weights, or by them in the program:
--   bad_weight   a line isn't of the form, or names what an earlier one names: code 85 at the first such line
--   not_lowered  else a rule isn't lowered: code 86 at the place of the first such rule
pub data IsWrongWeights (program weights : List ℕ) (refusal : Refusal) : Type 0 where
  bad_weight : (of : ReadsBoth program weights) → IsFirstWrongWeightLine of.later weights refusal → IsWrongWeights program weights refusal
  not_lowered : (of : ReadsBoth program weights) (by : Weights) → AreWeightsOf of.later weights by → IsFirstNotLowered by of.plain of.plans refusal
      → IsWrongWeights program weights refusal

-- as `% at most 2`
abbrev pub bound_line : ℕ → List ℕ
bound_line n = concat (codes "% at most " ∷ decimal n ∷ codes "\n" ∷ [])

-- the weights bound the program, and this line says by how many commits
abbrev pub IsBounded : List ℕ → List ℕ → List ℕ → Type 0
IsBounded program weights written = (n : ℕ) × IsBound program weights n × (written ≡ bound_line n)
