use Rattle.std.proofs.Common.{◌≡◌, ◌++◌, ◌-◌}
use Rattle.std.specs.List.{AllByRecursion}
use Rattle.lmn_store_heap.specs.Heap.{arity_of}
use Rattle.lmn_ground_parts.specs.Walks.{port_range}
use Rattle.lmn_solid_tables.specs.Flats.{heap_of}
use Rattle.lmn_solid_firing.specs.Pieces.{IsPort, stacked}
use Rattle.lmn_solid_firing.proofs.walk.push_ports.Given as goal

abbrev pub invariant-loop-index : goal.invariant-loop-index
invariant-loop-index l = record {
  ports : stacked l.waiting.items ≡ port_range l.atom l.index (arity_of (heap_of l.flat) l.atom - l.index) ++ stacked l.fn.waiting.items;
  there : AllByRecursion (IsPort (heap_of l.flat)) l.fn.waiting.items → AllByRecursion (IsPort (heap_of l.flat)) l.waiting.items;
}
