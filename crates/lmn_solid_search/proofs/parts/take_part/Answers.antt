use Rattle.lmn_solid_tables.specs.Flats.{heap_of, port_by}
use Rattle.lmn_solid_search.proofs.PartsLemmas.{entry_there, no_entry_at}
use Rattle.lmn_solid_search.proofs.parts.take_part.Goals as goal

pub is_entry-requires-clause-entry : goal.is_entry-requires-clause-entry
is_entry-requires-clause-entry c = entry_there (heap_of c.args.flat.now) c.as_slice.result.now c.as_slice-2.result.now c.args.item.now.link (port_by c.in-Some.entry) c.requires.valid c.in-Some.ensures.some

pub part_at-requires-clause-entry : goal.part_at-requires-clause-entry
part_at-requires-clause-entry c = entry_there (heap_of c.args.flat.now) c.as_slice.result.now c.as_slice-2.result.now c.args.item.now.link (port_by c.in-Some.entry) c.requires.valid c.in-Some.ensures.some

pub returns-in-None-clause-none : goal.returns-in-None-clause-none
returns-in-None-clause-none c = λ e q. no_entry_at (heap_of c.args.flat.now) c.args.head.now.atoms c.as_slice.result.now c.as_slice-2.result.now c.args.placed.now c.args.item.now q c.as_slice.ensures c.as_slice-2.ensures (c.entry_of.ensures.none c.in-None.is) c.requires.held
