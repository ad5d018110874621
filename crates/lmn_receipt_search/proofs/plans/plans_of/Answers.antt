use Rattle.lmn_receipt_search.proofs.Planned.{planned_next}
use Rattle.lmn_receipt_search.proofs.plans.plans_of.Goals as goal

pub loop-rule-preserved : goal.loop-rule-preserved
loop-rule-preserved c = planned_next c.args.rules.now c.loop-rule.rule-index _ c.rule-item.result c.loop-rule.plans c.push.new.self c.in_ok-plan_of.field-0 c.loop-rule-test.true c.rule-item.is c.loop-rule.invariant c.in_ok-plan_of.ensures c.in_ok-push.ensures.ok
