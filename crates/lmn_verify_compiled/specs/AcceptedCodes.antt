-- The code of each accepted rule is verified.
use Rattle.std.specs.Prelude.{ℕ, ◌<◌, List, length, All}
use Rattle.std.specs.List.{AllByRecursion}
use Rattle.lmn_base.specs.Levels.{rules_of}
use Rattle.lmn_base.specs.declared.rule.RuleTree.{RuleTree}
use Rattle.lmn_guards.specs.declared.plan.GuardPlan.{GuardPlan}
use Rattle.lmn_instr_code.specs.declared.instr.Code.{Code}
use Rattle.lmn_compile_rules.specs.Compiled.{IsCompiled}
use Rattle.lmn_compile_body.specs.Accepted.{IsCompilable}
use Rattle.lmn_schedule_strategy.specs.Turns.{IsTableCode}
use Rattle.lmn_verify_code.specs.Verified.{IsVerified}

-- The code of each accepted rule is verified where there are k rules, if those that are written in its body are among them.
abbrev pub AcceptedIsVerified : Type 0
AcceptedIsVerified = (table : List RuleTree) (r : RuleTree) (plan : GuardPlan) (code : Code) (k : ℕ) → IsCompilable table r plan → IsCompiled r plan code → All (λ j. j < k) (rules_of r.body) → IsVerified code k

-- So each code of a table of rules is verified where there are as many.
abbrev pub TablesAreVerified : Type 0
TablesAreVerified = (codes : List Code) → IsTableCode codes → AllByRecursion (λ c. IsVerified c (length codes)) codes
