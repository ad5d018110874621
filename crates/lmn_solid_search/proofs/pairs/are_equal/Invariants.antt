use Rattle.std.proofs.Common.{◌-◌, length}
use Rattle.lmn_solid_tables.specs.Flats.{heap_of, port_by}
use Rattle.lmn_solid_search.specs.Pairing.{Comparing, SameLengths}
use Rattle.lmn_solid_search.proofs.pairs.are_equal.Given as goal

abbrev pub invariant-loop-next : goal.invariant-loop-next
invariant-loop-next l = record {
  lengths : SameLengths l.fn.pairs l.pairs;
  goes : Comparing (heap_of l.flat) (port_by l.left) (port_by l.right) l.pairs l.next;
}

abbrev pub decreases-loop-next : goal.decreases-loop-next
decreases-loop-next l = length l.fn.pairs.forth - l.next
