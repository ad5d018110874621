use Rattle.std.proofs.Common.{◌≡◌, take}
use Rattle.std.specs.Option.{option_map}
use Rattle.lmn_store_heap.specs.Heap.{alter, rules_by, mem_with_rules}
use Rattle.lmn_store_slab.specs.Cells.{mems_in_cells}
use Rattle.lmn_store_slab.proofs.moving.append_rules.Given as goal

abbrev pub invariant-loop-i : goal.invariant-loop-i
invariant-loop-i l = mems_in_cells l.mems.slots ≡ alter (mems_in_cells l.initial.mems.slots) l.n (option_map (mem_with_rules (take l.i (rules_by (mems_in_cells l.initial.mems.slots l.m)))))
