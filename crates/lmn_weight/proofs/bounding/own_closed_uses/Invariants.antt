use Rattle.std.proofs.Common.{◌≡◌, ◌-◌, ◌^◌, min, map, sum, take}
use Rattle.lmn_weight.specs.Plains as plains
use Rattle.lmn_weight.proofs.bounding.own_closed_uses.Given as goal

abbrev pub invariant-loop-context : goal.invariant-loop-context
invariant-loop-context l = l.number ≡ min (sum (map (plains.one_if_closed l.name) (take l.context-index l.contexts))) (2 ^ 64 - 1)
