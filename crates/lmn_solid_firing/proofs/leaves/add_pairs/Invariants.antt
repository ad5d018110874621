use Rattle.std.proofs.Common.{◌≡◌, ◌++◌, drop}
use Rattle.lmn_solid_firing.specs.Making.{pairs_of}
use Rattle.lmn_solid_firing.proofs.leaves.add_pairs.Given as goal

abbrev pub invariant-loop-leaf : goal.invariant-loop-leaf
invariant-loop-leaf l = l.connectors ++ pairs_of l.taken (drop l.leaf-index l.leaves) ≡ l.fn.connectors ++ pairs_of l.taken l.leaves
