use Rattle.lmn_test_levels.proofs.LinkBounds.{leaf_bound, membrane_bound, level_bound}
use Rattle.lmn_test_levels.proofs.numbered.+are_below.Goals as goal

pub loop-leaf-preserved : goal.loop-leaf-preserved
loop-leaf-preserved t c =
    leaf_bound c.args.keys c.loop-leaf.leaf-index c.as_slice-leaf-items.result.now c.leaf-item.result c.loop-leaf-test.true c.leaf-item.is c.loop-leaf.invariant (c.are_below_in_leaf.ensures c.if-not-are_below_in_leaf.false)

pub loop-inner-preserved : goal.loop-inner-preserved
loop-inner-preserved t c =
    membrane_bound c.args.keys c.loop-inner.inner-index c.as_slice-inner-items.result.now c.inner-item.result c.loop-inner-test.true c.inner-item.is c.loop-inner.invariant (c.are_below.ensures c.if-not-are_below.false)

pub returns : goal.returns
returns t c =
    λ e. level_bound c.args.keys c.args.level.now c.loop-leaf.leaf-index c.loop-inner.inner-index c.as_slice-leaf-items.result.now c.as_slice-inner-items.result.now c.as_slice-leaf-items.ensures c.as_slice-inner-items.ensures
    c.loop-leaf-test.false c.loop-inner-test.false c.loop-leaf.invariant c.loop-inner.invariant
