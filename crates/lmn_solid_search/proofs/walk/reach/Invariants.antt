use Rattle.std.proofs.Common.{◌≡◌, ◌-◌, length}
use Rattle.lmn_solid_tables.specs.Flats.{heap_of, port_by}
use Rattle.lmn_solid_search.specs.Walking.{Gathering}
use Rattle.lmn_solid_search.proofs.walk.reach.Given as goal

abbrev pub invariant-loop-next : goal.invariant-loop-next
invariant-loop-next l = record {
  long : length l.seen ≡ length l.fn.seen;
  walks : Gathering (heap_of l.flat) (port_by l.entry) l.seen l.list l.next;
}

abbrev pub decreases-loop-next : goal.decreases-loop-next
decreases-loop-next l = length l.fn.seen - l.next
