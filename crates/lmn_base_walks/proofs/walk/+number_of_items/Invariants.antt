use Rattle.std.proofs.Common.{◌≡◌, ◌+◌, ◌-◌, ◌^◌, min, length, map, sum, take}
use Rattle.lmn_base.specs.declared.level.Level.{out-Level}
use Rattle.lmn_base.specs.Items.{number_of_items}
use Rattle.lmn_base_walks.proofs.walk.+number_of_items.Given as goal

abbrev pub invariant-loop-inner : goal.invariant-loop-inner
invariant-loop-inner l =
    let o = out-Level l.level in
    l.number ≡ min (length o.leaves + (length o.membranes + (length o.contexts + (length o.rule_contexts + (length o.rules + sum (map number_of_items (take l.inner-index l.inner-items))))))) (2 ^ 64 - 1)
