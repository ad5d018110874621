use Rattle.std.proofs.Common.{◌≡◌, ◌≢◌, ◌<◌, ℕ, Some}
use Rattle.lmn_base.specs.Graphs.{Port}
use Rattle.lmn_store_heap.specs.Heap.{link_of}
use Rattle.lmn_solid_tables.specs.Flats.{heap_of, port_by}
use Rattle.lmn_solid_search.specs.Taking.{StandsAt, image_port}
use Rattle.lmn_solid_search.proofs.fits.port_misfit.Given as goal

abbrev pub invariant-loop-number : goal.invariant-loop-number
invariant-loop-number l = (q : Port) → q.0 < l.number → StandsAt l.atoms l.link q → ◌≢◌ {A = ℕ × ℕ} q (port_by l.place) → link_of (heap_of l.flat) l.port.atom l.port.index ≡ Some (image_port l.images q)
