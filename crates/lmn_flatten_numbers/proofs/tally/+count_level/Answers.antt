use Rattle.std.proofs.Common.{refl}
use Rattle.lmn_base.specs.Levels.{occurrences_of_leaf, occurrences_of}
use Rattle.lmn_flatten_numbers.proofs.LevelSteps.{membrane_below}
use Rattle.lmn_flatten_numbers.proofs.TallySteps.{counts_none, parts_more, parts_all, parts_within, level_counted, leaves_counted_within, membranes_counted_within}
use Rattle.lmn_flatten_numbers.proofs.tally.+count_level.Goals as goal

pub loop-leaf-init : goal.loop-leaf-init
loop-leaf-init t c = counts_none c.args.tallies.now

pub count_leaf-requires : goal.count_leaf-requires
count_leaf-requires t c =
    parts_within occurrences_of_leaf c.args.tallies.now _ _ _ _ c.loop-leaf-test.true c.leaf-item.is c.loop-leaf.invariant
    (leaves_counted_within c.args.tallies.now c.args.tallies.now c.args.tallies.now c.args.level.now c.as_slice-leaf-items.result.now _ c.as_slice-leaf-items.ensures refl c.requires)

pub loop-leaf-preserved : goal.loop-leaf-preserved
loop-leaf-preserved t c = parts_more occurrences_of_leaf _ _ _ _ _ _ c.loop-leaf-test.true c.leaf-item.is c.loop-leaf.invariant c.in_ok-count_leaf.ensures

pub loop-inner-init : goal.loop-inner-init
loop-inner-init t c = counts_none c.loop-leaf.tallies

pub count_level-requires : goal.count_level-requires
count_level-requires t c = (
  membrane_below t c.args.level.now _ _ _ c.loop-inner-test.true c.inner-item.is c.as_slice-inner-items.ensures c.decreases,
  parts_within occurrences_of c.loop-leaf.tallies _ _ _ _ c.loop-inner-test.true c.inner-item.is c.loop-inner.invariant
      (membranes_counted_within c.args.tallies.now c.loop-leaf.tallies c.loop-inner.tallies c.args.level.now c.as_slice-leaf-items.result.now c.as_slice-inner-items.result.now c.as_slice-leaf-items.ensures c.as_slice-inner-items.ensures
      (parts_all occurrences_of_leaf _ _ _ _ c.loop-leaf-test.false c.loop-leaf.invariant) c.requires),
)

pub loop-inner-preserved : goal.loop-inner-preserved
loop-inner-preserved t c = parts_more occurrences_of _ _ _ _ _ _ c.loop-inner-test.true c.inner-item.is c.loop-inner.invariant c.in_ok-count_level.ensures

pub returns : goal.returns
returns t c =
    level_counted c.args.tallies.now c.loop-leaf.tallies c.loop-inner.tallies c.args.level.now c.as_slice-leaf-items.result.now c.as_slice-inner-items.result.now c.as_slice-leaf-items.ensures c.as_slice-inner-items.ensures
    (parts_all occurrences_of_leaf _ _ _ _ c.loop-leaf-test.false c.loop-leaf.invariant) (parts_all occurrences_of _ _ _ _ c.loop-inner-test.false c.loop-inner.invariant)
