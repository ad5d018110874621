use Rattle.std.proofs.Common.{take}
use Rattle.lmn_flatten.specs.Copies.{CountsPlaces, links_of_levels}
use Rattle.lmn_flatten.proofs.kept.+count_levels.Given as goal

abbrev pub invariant-loop-level : goal.invariant-loop-level
invariant-loop-level l = CountsPlaces (links_of_levels (take l.level-index l.levels)) l.initial.counts l.counts
