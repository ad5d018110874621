use Rattle.std.proofs.Common.{◌≡◌}
use Rattle.lmn_solid_tables.specs.Flats.{heap_of}
use Rattle.lmn_solid_heads.specs.Guards.{Meaning}
use Rattle.lmn_solid_search.specs.Knowing.{Guarding, Knows}
use Rattle.lmn_solid_search.specs.Pairing.{SameLengths}
use Rattle.lmn_solid_search.proofs.known.guard_holds.Given as goal

abbrev pub invariant-loop-condition : goal.invariant-loop-condition
invariant-loop-condition l = record {
  lengths : SameLengths l.fn.pairs l.pairs;
  parts : l.known.parts ≡ l.fn.known.parts;
  guards : (s : Meaning) → Knows (heap_of l.flat) l.fn.known s → Guarding (heap_of l.flat) s l.guard l.known l.condition-index;
}
