use Rattle.std.proofs.Common.{◌≡◌, ◌-◌, ◌^◌, min, map, sum, take}
use Rattle.lmn_weight.specs.Plains as plains
use Rattle.lmn_weight.proofs.bounding.leaves_weight.Given as goal

abbrev pub invariant-loop-leaf : goal.invariant-loop-leaf
invariant-loop-leaf l = l.weight ≡ min (sum (map (plains.leaf_weight l.weights l.kinds l.bound) (take l.leaf-index l.leaves))) (2 ^ 64 - 1)
