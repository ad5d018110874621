use Rattle.lmn_weight.proofs.BoundLemmas.{all_weighed}
use Rattle.lmn_weight.proofs.bounding.+level_weight.Goals as goal

pub returns : goal.returns
returns t c = all_weighed c.args.weights.now c.args.kinds.now c.args.bound.now c.args.level.now c.as_slice-inner-items.result.now c.loop-inner.inner-index c.loop-inner.weight 18446744073709551615 c.as_slice-inner-items.ensures c.loop-inner-test.false c.loop-inner.invariant
