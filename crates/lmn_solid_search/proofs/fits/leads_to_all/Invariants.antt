use Rattle.std.proofs.Common.{◌≡◌, ◌≢◌, ◌<◌, ℕ, Some, slice_get}
use Rattle.lmn_store_heap.specs.Heap.{link_of}
use Rattle.lmn_solid_tables.specs.Flats.{heap_of, port_by}
use Rattle.lmn_solid_search.proofs.fits.leads_to_all.Given as goal

abbrev pub invariant-loop-j : goal.invariant-loop-j
invariant-loop-j l = (j : ℕ) → j < l.j → slice_get l.links j ≡ Some l.link → ◌≢◌ {A = ℕ × ℕ} (l.number, j) (port_by l.place) → link_of (heap_of l.flat) l.port.atom l.port.index ≡ Some (l.image, j)
