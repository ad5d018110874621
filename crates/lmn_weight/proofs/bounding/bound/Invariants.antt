use Rattle.std.proofs.Common.{ℕ, ◌≡◌, ◌<◌, Some, slice_get}
use Rattle.std.specs.Prelude.{IsTrue}
use Rattle.lmn_base.specs.declared.rule.RuleTree.{RuleTree}
use Rattle.lmn_guards.specs.declared.plan.GuardPlan.{GuardPlan}
use Rattle.lmn_weight.specs.Plains as plains
use Rattle.lmn_weight.proofs.bounding.bound.Given as goal

abbrev pub invariant-loop-k : goal.invariant-loop-k
invariant-loop-k l =
    (j : ℕ) (r : RuleTree) (g : GuardPlan) → j < l.k → slice_get l.plain.rules j ≡ Some r → slice_get l.plans j ≡ Some g → IsTrue (plains.is_lowered l.weights r g)
