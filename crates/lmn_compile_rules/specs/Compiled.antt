-- The code of the rules of a table.
use Rattle.std.specs.Prelude.{ℕ, ◌≡◌, List, Some, length, slice_get}
use Rattle.lmn_base.specs.declared.rule.RuleTree.{RuleTree}
use Rattle.lmn_guards.specs.declared.plan.GuardPlan.{GuardPlan}
use Rattle.lmn_instr_code.specs.declared.instr.Code.{Code}
use Rattle.lmn_compile_head.specs.Accepted.{rule_head_code}
use Rattle.lmn_compile_body.specs.Accepted.{IsCompilable, rule_body_code}

-- Each rule of a table has its plan, and is whole with it.
pub record AreWhole (table : List RuleTree) (plans : List GuardPlan) : Type 0 where
  pub many : length plans ≡ length table
  pub whole : (k : ℕ) (r : RuleTree) (plan : GuardPlan) → slice_get table k ≡ Some r → slice_get plans k ≡ Some plan → IsCompilable table r plan

-- the code of a rule with its plan
pub record IsCompiled (r : RuleTree) (plan : GuardPlan) (code : Code) : Type 0 where
  pub head : code.head ≡ rule_head_code r plan
  pub body : code.body ≡ rule_body_code r plan

-- Each rule of a table is compiled with its plan, and the code of a rule has its number.
pub record AreCompiled (table : List RuleTree) (plans : List GuardPlan) (codes : List Code) : Type 0 where
  pub many : length codes ≡ length table
  pub each : (k : ℕ) (r : RuleTree) (plan : GuardPlan) (code : Code) →
      slice_get table k ≡ Some r → slice_get plans k ≡ Some plan → slice_get codes k ≡ Some code → IsCompiled r plan code
