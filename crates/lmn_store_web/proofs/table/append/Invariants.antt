use Rattle.std.proofs.Common.{◌≡◌, take}
use Rattle.std.specs.Option.{option_map}
use Rattle.lmn_store_heap.specs.Heap.{alter, rules_by, mem_with_rules}
use Rattle.lmn_store_web.specs.Tables.{rows}
use Rattle.lmn_store_web.proofs.table.append.Given as goal

abbrev pub invariant-loop-i : goal.invariant-loop-i
invariant-loop-i l = rows l.table.slots ≡ alter (rows l.initial.table.slots) l.to (option_map (mem_with_rules (take l.i (rules_by (rows l.initial.table.slots l.from)))))
