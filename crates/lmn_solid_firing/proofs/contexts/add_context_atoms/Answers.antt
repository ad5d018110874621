use Rattle.std.proofs.Common.{sym, subst}
use Rattle.lmn_store_heap.specs.Heap.{IsMem}
use Rattle.lmn_solid_tables.specs.Flats.{heap_of}
use Rattle.lmn_solid_firing.specs.Making.{AreThere}
use Rattle.lmn_solid_firing.proofs.Laying.{named_there}
use Rattle.lmn_solid_firing.proofs.contexts.add_context_atoms.Goals as goal
use Rattle.lmn_adequacy_turns.proofs.ReadAgain.{root_mem as root_there}

pub add_left_atoms-requires-clause-membrane : goal.add_left_atoms-requires-clause-membrane
add_left_atoms-requires-clause-membrane c =
    subst (IsMem (heap_of c.args.flat.now)) (sym c.membrane_of-membrane.ensures)
    (named_there (heap_of c.args.flat.now) (root_there (heap_of c.args.flat.now) c.requires.valid) c.as_slice.result.now (subst (AreThere (heap_of c.args.flat.now)) (sym c.as_slice.ensures) c.requires.there) _)
