use Rattle.std.proofs.Common.{take}
use Rattle.std.specs.List.{flat_map}
use Rattle.lmn_base.specs.Levels.{occurrences_of_leaf, occurrences_of}
use Rattle.lmn_flatten_numbers.specs.Tallies.{CountsOccurrences}
use Rattle.lmn_flatten_numbers.proofs.tally.+count_level.Given as goal
use Rattle.lmn_base.proofs.Common.{levels_in as number_of_levels}

abbrev pub decreases-count_level : goal.decreases-count_level
decreases-count_level l = number_of_levels l.level.now

abbrev pub invariant-loop-leaf : goal.invariant-loop-leaf
invariant-loop-leaf l = CountsOccurrences (flat_map occurrences_of_leaf (take l.leaf-index l.leaf-items)) l.initial.tallies l.tallies

abbrev pub invariant-loop-inner : goal.invariant-loop-inner
invariant-loop-inner l = CountsOccurrences (flat_map occurrences_of (take l.inner-index l.inner-items)) l.initial.tallies l.tallies
