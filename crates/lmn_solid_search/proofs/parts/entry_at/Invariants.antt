use Rattle.std.proofs.Common.{◌≡◌, ◌<◌, ℕ, Some, slice_get}
use Rattle.lmn_base.specs.Graphs.{Port}
use Rattle.lmn_store_heap.specs.Heap.{link_of}
use Rattle.lmn_solid_tables.specs.Flats.{heap_of}
use Rattle.lmn_solid_search.proofs.parts.entry_at.Given as goal

abbrev pub invariant-loop-index : goal.invariant-loop-index
invariant-loop-index l = (j y : ℕ) → j < l.index → slice_get l.links j ≡ Some y → y ≡ l.link → (q : Port) → link_of (heap_of l.flat) l.image j ≡ Some q → ⊥
