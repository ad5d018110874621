use Rattle.std.proofs.Common.{ℕ}
use Rattle.lmn_solid_tables.specs.Flats.{heap_of, port_by}
use Rattle.lmn_solid_search.specs.Pairing.{Comparing, ComparingAt, IsPair, SameLengths}
use Rattle.lmn_solid_search.proofs.pairs.compare_atoms.Given as goal

abbrev pub invariant-loop-index : goal.invariant-loop-index
invariant-loop-index l = record {
  lengths : SameLengths l.fn.pairs l.pairs;
  goes : (k : ℕ) → IsPair l.fn.pairs k l.atom l.other → Comparing (heap_of l.flat) (port_by l.left) (port_by l.right) l.fn.pairs k → ComparingAt (heap_of l.flat) (port_by l.left) (port_by l.right) l.pairs k l.atom l.other l.index;
}
