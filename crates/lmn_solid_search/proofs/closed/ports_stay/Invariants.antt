use Rattle.std.proofs.Common.{◌≡◌, ◌<◌, ℕ, Some}
use Rattle.lmn_base.specs.Graphs.{Port}
use Rattle.lmn_store_heap.specs.Heap.{link_of}
use Rattle.lmn_solid_tables.specs.Flats.{heap_of}
use Rattle.lmn_solid_search.specs.Walking.{IsMarked}
use Rattle.lmn_solid_search.proofs.closed.ports_stay.Given as goal

abbrev pub invariant-loop-index : goal.invariant-loop-index
invariant-loop-index l = (i : ℕ) (p : Port) → i < l.index → link_of (heap_of l.flat) l.atom i ≡ Some p → IsMarked l.within p.0
