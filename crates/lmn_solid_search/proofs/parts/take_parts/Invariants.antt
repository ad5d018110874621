use Rattle.std.proofs.Common.{◌≡◌, length}
use Rattle.lmn_solid_tables.specs.Flats.{heap_of}
use Rattle.lmn_solid_search.specs.Parting.{AreTaken}
use Rattle.lmn_solid_search.proofs.parts.take_parts.Given as goal

abbrev pub invariant-loop-number : goal.invariant-loop-number
invariant-loop-number l = record {
  long : length l.seen ≡ length l.fn.seen;
  taken : AreTaken (heap_of l.flat) l.head.atoms l.placed l.head.typed l.parts l.number;
}
