use Rattle.lmn_flatten.proofs.CopyLemmas.{counts_none, counts_out}
use Rattle.lmn_flatten.proofs.kept.+count_levels.Goals as goal

pub loop-level-init : goal.loop-level-init
loop-level-init t c = counts_none c.args.counts.now

pub loop-level-preserved : goal.loop-level-preserved
loop-level-preserved t c =
    counts_out c.args.levels.now c.loop-level.level-index _ c.level-item.result c.as_slice.result.now c.as_slice-in-loop-level.result.now c.args.counts.now c.loop-level.counts
    c.count_leaves.new.counts c.count_levels.new.counts c.loop-level-test.true c.level-item.is c.as_slice.ensures c.as_slice-in-loop-level.ensures c.loop-level.invariant
    c.count_leaves.ensures c.count_levels.ensures
