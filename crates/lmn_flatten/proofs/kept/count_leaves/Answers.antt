use Rattle.lmn_flatten.proofs.CopyLemmas.{counts_leaf, counts_none}
use Rattle.lmn_flatten.proofs.kept.count_leaves.Goals as goal

pub loop-leaf-init : goal.loop-leaf-init
loop-leaf-init c = counts_none c.args.counts.now

pub loop-leaf-preserved : goal.loop-leaf-preserved
loop-leaf-preserved c = counts_leaf c.args.leaves.now c.loop-leaf.leaf-index _ c.leaf-item.result c.args.counts.now c.loop-leaf.counts c.count_leaf.new.counts c.loop-leaf-test.true c.leaf-item.is c.loop-leaf.invariant c.count_leaf.ensures
