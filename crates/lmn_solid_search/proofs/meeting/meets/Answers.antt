use Rattle.lmn_solid_tables.specs.Flats.{heap_of}
use Rattle.lmn_solid_search.proofs.NamingLemmas.{named_atoms}
use Rattle.lmn_solid_search.proofs.meeting.meets.Goals as goal

pub guard_holds-requires-clause-parts : goal.guard_holds-requires-clause-parts
guard_holds-requires-clause-parts c = named_atoms (heap_of c.args.flat.now) c.in_ok-known.known c.as_slice.result.now c.args.parts.now c.in_ok-known.ensures.parts c.requires.entries
