-- A program that is accepted, and the list of names once a second text is read too.
use Rattle.std.specs.Prelude.{ℕ, List, length}
use Rattle.lmn_base.specs.declared.rule.Plain.{Plain}
use Rattle.lmn_base.specs.Names.{IsNames}
use Rattle.lmn_congruence.specs.Rules.{Name}
use Rattle.lmn_instr_reading.specs.Reading.{AddsNames}
use Rattle.lmn_guards.specs.declared.plan.GuardPlan.{GuardPlan}
use Rattle.lmn_app_single.specs.Texts.{Accepts}

-- The names of the second text stand behind those of the program, and none stands twice.
pub record ReadsBoth (program second : List ℕ) : Type 0 where
  pub names : List Name
  pub plain : Plain
  pub plans : List GuardPlan
  pub accepted : Accepts program names plain plans
  pub later : List Name
  pub adds : AddsNames (length second) names later
  pub once : IsNames later
