use Rattle.lmn_weight.proofs.BoundLemmas.{passed}
use Rattle.lmn_weight.proofs.weights.listed_weight.Goals as goal

pub loop-i-preserved : goal.loop-i-preserved
loop-i-preserved c = passed c.args.functors.now c.args.values.now c.args.functor _ c.loop-i.i c.same_functor.result c.requires c.loop-i-test.true c.same_functor.ensures c.if-same_functor.false c.loop-i.invariant
