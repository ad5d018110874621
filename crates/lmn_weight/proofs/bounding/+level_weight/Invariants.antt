use Rattle.std.proofs.Common.{◌≡◌, ◌+◌, ◌-◌, ◌*◌, ◌^◌, length, min, map, sum, take}
use Rattle.lmn_base.specs.declared.level.Level.{out-Level}
use Rattle.lmn_weight.specs.Plains as plains
use Rattle.lmn_weight.proofs.bounding.+level_weight.Given as goal

abbrev pub invariant-loop-inner : goal.invariant-loop-inner
invariant-loop-inner l =
    let o = out-Level l.level in
    l.weight ≡ min (sum (map (plains.leaf_weight l.weights l.kinds l.bound) o.leaves) + (length o.membranes * l.weights.membrane + sum (map (plains.level_weight l.weights l.kinds l.bound) (take l.inner-index l.inner-items)))) (2 ^ 64 - 1)
