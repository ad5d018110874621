use Rattle.std.proofs.Common.{◌≡◌, ℕ, drop}
use Rattle.lmn_solid_tables.specs.Flats.{heap_of}
use Rattle.lmn_solid_search.specs.Knowing.{KnowsIntegers, or_else, part_named}
use Rattle.lmn_solid_search.specs.Parting.{first_named}
use Rattle.lmn_solid_search.proofs.naming.known_of.Given as goal

abbrev pub invariant-loop-number : goal.invariant-loop-number
invariant-loop-number l = record {
  parts : (x : ℕ) → or_else (part_named l.known.parts x) (first_named (drop l.number l.typed) (drop l.number l.parts) x) ≡ first_named l.typed l.parts x;
  integers : KnowsIntegers (heap_of l.flat) l.known;
}
