use Rattle.std.proofs.Common.{take}
use Rattle.lmn_flatten.specs.Copies.{CountsPlaces}
use Rattle.lmn_base.specs.Levels.{links_of_leaves}
use Rattle.lmn_flatten.proofs.kept.count_leaves.Given as goal

abbrev pub invariant-loop-leaf : goal.invariant-loop-leaf
invariant-loop-leaf l = CountsPlaces (links_of_leaves (take l.leaf-index l.leaves)) l.initial.counts l.counts
