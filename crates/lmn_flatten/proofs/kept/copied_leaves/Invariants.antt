use Rattle.std.proofs.Common.{◌≡◌, take, map}
use Rattle.lmn_flatten_numbers.specs.Renumbered.{renumbered_leaf}
use Rattle.lmn_flatten.specs.Copies.{new_link}
use Rattle.lmn_flatten.proofs.kept.copied_leaves.Given as goal

abbrev pub invariant-loop-leaf : goal.invariant-loop-leaf
invariant-loop-leaf l = l.new ≡ map (renumbered_leaf (new_link l.links)) (take l.leaf-index l.leaves)
