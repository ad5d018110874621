use Rattle.std.proofs.Common.{take}
use Rattle.std.specs.List.{AllZip}
use Rattle.lmn_guards.specs.Plans.{IsPlan}
use Rattle.lmn_receipt_search.proofs.plans.plans_of.Given as goal

abbrev pub invariant-loop-rule : goal.invariant-loop-rule
invariant-loop-rule l = AllZip IsPlan (take l.rule-index l.rules) l.plans
