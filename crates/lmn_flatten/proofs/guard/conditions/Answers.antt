use Rattle.lmn_flatten_plain.specs.Plains.{IsCond}
use Rattle.lmn_flatten.proofs.GuardLemmas.{one_more_condition}
use Rattle.lmn_flatten.proofs.guard.conditions.Goals as goal

pub loop-node-preserved : goal.loop-node-preserved
loop-node-preserved c = λ r is.
    one_more_condition (IsCond r.words r.places r.names) c.args.nodes.now c.loop-node.node-index _ c.node-item.result c.loop-node.conditions c.push.new.self c.in_ok-condition.condition
    c.loop-node-test.true c.node-item.is (c.loop-node.invariant r is) (c.in_ok-condition.ensures r is) c.in_ok-push.ensures.ok
