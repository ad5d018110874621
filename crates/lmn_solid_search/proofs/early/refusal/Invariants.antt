use Rattle.lmn_solid_tables.specs.Flats.{heap_of}
use Rattle.lmn_solid_search.specs.Foretelling.{ForetellsParts}
use Rattle.lmn_solid_search.proofs.early.refusal.Given as goal

abbrev pub invariant-loop-number : goal.invariant-loop-number
invariant-loop-number l = ForetellsParts l.early (heap_of l.flat) l.head l.images
