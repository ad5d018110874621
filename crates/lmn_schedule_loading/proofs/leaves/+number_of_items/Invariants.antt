use Rattle.std.proofs.Common.{◌≡◌, ◌+◌, ◌-◌, ◌^◌, min, length, map, sum, take}
use Rattle.lmn_base.specs.declared.level.Level.{out-Level}
use Rattle.lmn_schedule_loading.specs.Loaded.{atoms_among, loaded_items}
use Rattle.lmn_schedule_loading.proofs.leaves.+number_of_items.Given as goal

abbrev pub invariant-loop-inner : goal.invariant-loop-inner
invariant-loop-inner l =
    let o = out-Level l.level in
    l.number ≡ min (atoms_among o.leaves + (length o.membranes + (length o.rules + sum (map loaded_items (take l.inner-index l.inner-items))))) (2 ^ 64 - 1)
