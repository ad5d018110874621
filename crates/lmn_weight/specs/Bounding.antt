-- The bound of the commits of a plain by weights.
use Rattle.lmn_base.specs.Limits.{most_body_items}
use Rattle.std.specs.Prelude.{ℕ, [], List, ◌≡◌, ◌≤◌, ◌+◌, length}
use Rattle.std.specs.List.{AllByRecursion, AllZip}
use Rattle.lmn_adequacy.specs.Accepted.{Accepted, ThroughoutLevel}
use Rattle.lmn_base.specs.declared.rule.Plain.{Plain}
use Rattle.lmn_base.specs.declared.rule.RuleTree.{RuleTree}
use Rattle.lmn_base.specs.Names.{NamesPlain}
use Rattle.lmn_base.specs.WellMade.{IsWellMade}
use Rattle.lmn_congruence.specs.Process.{Process}
use Rattle.lmn_congruence.specs.Rules.{Name}
use Rattle.lmn_congruence.specs.Translation.{plain_process, top_of}
use Rattle.lmn_guards.specs.Accepted.{IsAcceptedRule}
use Rattle.lmn_guards.specs.declared.plan.GuardPlan.{GuardPlan}
use Rattle.lmn_guards.specs.Plans.{IsPlan}
use Rattle.lmn_app_reading.specs.Texts.{ReadsAs}
use Rattle.lmn_reduction.specs.Chains.{Commits}
use Rattle.lmn_reduction.specs.Commits.{Settles}
use Rattle.lmn_weight.specs.declared.weights.Weights.{Weights}
use Rattle.lmn_weight.specs.Lowered.{Lowered}
use Rattle.lmn_weight.specs.Plains.{EachLowered, level_weight, weighed_items}
use Rattle.lmn_weight.specs.Weights.{Weighing, weight}

-- A plain as an accepted text has it: well made, with names of the list, and each of its rules is accepted and has its plan.
pub record IsAcceptedPlain (names : List Name) (plain : Plain) (plans : List GuardPlan) : Type 0 where
  pub made : IsWellMade plain
  pub named : NamesPlain names plain
  pub rules : AllByRecursion (IsAcceptedRule plain.rules) plain.rules
  pub planned : AllZip IsPlan plain.rules plans

-- Where each rule of the table of such a plain is lowered, there is a weighing by which each rule of its tree is, those in rules
-- too, and by which its process weighs what its top does.
pub record IsLoweredTree (names : List Name) (plain : Plain) (w : Weights) : Type 0 where
  pub by : Weighing
  pub throughout : ThroughoutLevel (λ r. Accepted r × Lowered by r) (top_of names plain)
  pub weighs : weight by (plain_process names plain) ≡ level_weight w [] [] plain.top

abbrev pub LoweredPlains : Type 0
LoweredPlains = (names : List Name) (plain : Plain) (plans : List GuardPlan) (w : Weights) → IsAcceptedPlain names plain plans → EachLowered w plain plans → IsLoweredTree names plain w

-- So no chain of commits from its process has more of them than its top weighs, whatever is chosen.
abbrev pub WeightsBound : Type 0
WeightsBound = (names : List Name) (plain : Plain) (plans : List GuardPlan) (w : Weights) → IsAcceptedPlain names plain plans → EachLowered w plain plans →
    (first last : Process) (n : ℕ) → Settles (plain_process names plain) first → Commits n first last → n ≤ level_weight w [] [] plain.top

-- no more items of the top of a text weigh than it has bytes, and one
abbrev pub TopsAreSmall : Type 0
TopsAreSmall = (text : List ℕ) (names : List Name) (plain : Plain) → ReadsAs text names plain → weighed_items plain.top ≤ length text + 1

-- and of the head and the body of an accepted rule at most 1,024 do; that a head has fewer isn't wanted
abbrev pub RulesAreSmall : Type 0
RulesAreSmall = (table : List RuleTree) (r : RuleTree) → IsAcceptedRule table r → (weighed_items r.head ≤ most_body_items) × (weighed_items r.body ≤ most_body_items)
