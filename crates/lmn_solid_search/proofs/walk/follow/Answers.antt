use Rattle.lmn_solid_tables.specs.Flats.{heap_of, port_by}
use Rattle.lmn_solid_search.proofs.WalkingLemmas.{followed, skipped, linked_to}
use Rattle.lmn_solid_search.proofs.walk.follow.Goals as goal

pub returns-then-is_same-clause-on : goal.returns-then-is_same-clause-on
returns-then-is_same-clause-on c = λ k w. skipped (heap_of c.args.flat.now) (port_by c.args.entry) c.args.seen.now c.args.list.now k c.args.port.atom c.args.port.index (c.is_same.ensures.0 c.if-is_same.true) w

pub note-requires : goal.note-requires
note-requires c = c.requires.places _ (linked_to (heap_of c.args.flat.now) c.args.port.atom c.args.port.index (port_by c.other.result) c.requires.valid c.other.ensures)

pub returns-clause-on : goal.returns-clause-on
returns-clause-on c = λ k w. followed (heap_of c.args.flat.now) (port_by c.args.entry) c.args.seen.now c.note.new.seen c.args.list.now c.note.new.list k c.args.port.atom c.args.port.index (port_by c.other.result) c.note.result
    c.other.ensures c.is_same.ensures.1 c.if-is_same.false c.note.ensures.noted w
