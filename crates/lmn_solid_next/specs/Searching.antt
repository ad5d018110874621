-- What a search for the next solid asks of names, rules and their plans.
use Rattle.std.specs.Prelude.{ℕ, ◌≡◌, List, Some, slice_get}
use Rattle.lmn_base.specs.declared.rule.Plain.{Plain}
use Rattle.lmn_base.specs.declared.rule.RuleTree.{RuleTree}
use Rattle.lmn_base.specs.declared.solid.Solid.{Solid}
use Rattle.lmn_base.specs.Names.{NamesSolid}
use Rattle.lmn_base.specs.Solids.{HasEachRule, IsSolid}
use Rattle.lmn_base.specs.WellMade.{IsWellMade}
use Rattle.lmn_guards.specs.declared.plan.GuardPlan.{GuardPlan}
use Rattle.lmn_congruence.specs.Rules.{Name}
use Rattle.lmn_congruence.specs.Translation.{numbered_rule, rule_tree}
use Rattle.lmn_adequacy.specs.Accepted.{Accepted}
use Rattle.lmn_compile_rules.specs.Compiled.{AreWhole}

-- Rules of a plain, by a list of names.
--   made      the plain is well made
--   whole     each rule is accepted and well made, with its plan
--   allowed   and its tree, by these names, is one that a text may have
pub record CanSearch (names : List Name) (plain : Plain) (plans : List GuardPlan) : Type 0 where
  pub made : IsWellMade plain
  pub whole : AreWhole plain.rules plans
  pub allowed : (k : ℕ) (rule : RuleTree) → slice_get plain.rules k ≡ Some rule → Accepted (rule_tree names (numbered_rule names plain.rules) rule)

-- A solid with rules of the plain, whose names the list has.
pub record IsSolidBy (names : List Name) (plain : Plain) (s : Solid) : Type 0 where
  pub solid : IsSolid s
  pub each_rule : HasEachRule plain.rules s
  pub named : NamesSolid names plain.rules s
