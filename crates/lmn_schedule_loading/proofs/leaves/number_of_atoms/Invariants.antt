use Rattle.std.proofs.Common.{◌≡◌, ◌-◌, ◌^◌, min, map, sum, take}
use Rattle.lmn_schedule_loading.specs.Loaded.{one_if_atom}
use Rattle.lmn_schedule_loading.proofs.leaves.number_of_atoms.Given as goal

abbrev pub invariant-loop-leaf : goal.invariant-loop-leaf
invariant-loop-leaf l = l.number ≡ min (sum (map one_if_atom (take l.leaf-index l.leaves))) (2 ^ 64 - 1)
