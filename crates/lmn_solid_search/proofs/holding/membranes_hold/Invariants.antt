use Rattle.std.proofs.Common.{◌≡◌, ◌<◌, ℕ, Some, slice_get}
use Rattle.lmn_solid_tables.specs.Flats.{heap_of}
use Rattle.lmn_solid_search.specs.Holding.{HasRoom, HoldsAt}
use Rattle.lmn_solid_search.specs.declared.head.MembraneItem.{MembraneItem}
use Rattle.lmn_solid_search.proofs.holding.membranes_hold.Given as goal

abbrev pub invariant-loop-index : goal.invariant-loop-index
invariant-loop-index l = record {
  room : HasRoom (heap_of l.flat) l.room;
  hold : (k : ℕ) (item : MembraneItem) → k < l.index → slice_get l.head.membranes k ≡ Some item → HoldsAt (heap_of l.flat) l.head l.placed l.fn.parts k item;
}
