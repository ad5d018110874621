use Rattle.std.proofs.Common.{◌≡◌, ℕ, Some, length, slice_get}
use Rattle.lmn_solid_tables.specs.Flats.{heap_of, port_by}
use Rattle.lmn_solid_search.specs.Walking.{Gathering, GatheringAt}
use Rattle.lmn_solid_search.proofs.walk.follow_all.Given as goal

abbrev pub invariant-loop-index : goal.invariant-loop-index
invariant-loop-index l = record {
  long : length l.seen ≡ length l.fn.seen;
  walks : (k : ℕ) → slice_get l.fn.list k ≡ Some l.atom → Gathering (heap_of l.flat) (port_by l.entry) l.fn.seen l.fn.list k → GatheringAt (heap_of l.flat) (port_by l.entry) l.seen l.list k l.atom l.index;
}
