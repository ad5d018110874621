use Rattle.std.proofs.Common.{◌≡◌, ◌<◌, ℕ, Some, slice_get, slice_index_or}
use Rattle.lmn_solid_tables.specs.Flats.{heap_of, port_by}
use Rattle.lmn_solid_search.specs.Parting.{HoldsAt}
use Rattle.lmn_solid_search.specs.declared.head.AtomItem.{AtomItem}
use Rattle.lmn_solid_search.proofs.parts.all_hold.Given as goal

abbrev pub invariant-loop-number : goal.invariant-loop-number
invariant-loop-number l = (n : ℕ) (a : AtomItem) → n < l.number → slice_get l.atoms n ≡ Some a → HoldsAt (heap_of l.flat) a.links l.link (slice_index_or l.images n 0) (port_by l.entry)
