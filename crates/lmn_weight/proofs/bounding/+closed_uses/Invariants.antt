use Rattle.std.proofs.Common.{◌≡◌, ◌+◌, ◌-◌, ◌^◌, min, map, sum, take}
use Rattle.lmn_base.specs.declared.level.Level.{out-Level}
use Rattle.lmn_weight.specs.Plains as plains
use Rattle.lmn_weight.proofs.bounding.+closed_uses.Given as goal

abbrev pub invariant-loop-inner : goal.invariant-loop-inner
invariant-loop-inner l =
    l.number ≡ min (sum (map (plains.one_if_closed l.name) (out-Level l.level).contexts) + sum (map (plains.closed_uses l.name) (take l.inner-index l.inner-items))) (2 ^ 64 - 1)
