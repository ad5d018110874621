use Rattle.lmn_solid_tables.specs.Flats.{heap_of}
use Rattle.lmn_solid_search.proofs.HoldingLemmas.{atom_places, membrane_places, pair_places}
use Rattle.lmn_solid_search.proofs.room.Room.new.Goals as goal

pub returns : goal.returns
returns c = record {
  seen = atom_places (heap_of c.args.flat.now) c.atom_count-atoms.result c.in_ok-new.field-0 c.atom_count-atoms.ensures c.in_ok-new.ensures;
  mine = atom_places (heap_of c.args.flat.now) c.atom_count-atoms.result c.in_ok-new-2.field-0 c.atom_count-atoms.ensures c.in_ok-new-2.ensures;
  within = atom_places (heap_of c.args.flat.now) c.atom_count-atoms.result c.in_ok-new-3.field-0 c.atom_count-atoms.ensures c.in_ok-new-3.ensures;
  membranes = membrane_places (heap_of c.args.flat.now) c.membrane_count.result c.in_ok-new-4.field-0 c.membrane_count.ensures.count c.in_ok-new-4.ensures;
  pairs = (pair_places (heap_of c.args.flat.now) c.atom_count-atoms.result c.in_ok-new-5.field-0.forth c.atom_count-atoms.ensures c.in_ok-new-5.ensures.0, pair_places (heap_of c.args.flat.now) c.atom_count-atoms.result c.in_ok-new-5.field-0.back c.atom_count-atoms.ensures c.in_ok-new-5.ensures.1);
}
