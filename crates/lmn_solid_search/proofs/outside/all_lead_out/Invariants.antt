use Rattle.std.proofs.Common.{◌≡◌, ◌<◌, ℕ, Some, length, slice_get, slice_index_or}
use Rattle.lmn_solid_tables.specs.Flats.{heap_of}
use Rattle.lmn_solid_search.specs.Placing.{AtomLeadsOut}
use Rattle.lmn_solid_search.specs.declared.head.AtomItem.{AtomItem}
use Rattle.lmn_solid_search.proofs.outside.all_lead_out.Given as goal

abbrev pub invariant-loop-number : goal.invariant-loop-number
invariant-loop-number l = record {
  long : length l.seen ≡ length l.fn.seen;
  lead : (n : ℕ) (a : AtomItem) → n < l.number → slice_get l.head.atoms n ≡ Some a → AtomLeadsOut (heap_of l.flat) l.head a (slice_index_or l.placed.atoms n 0) l.placed;
}
