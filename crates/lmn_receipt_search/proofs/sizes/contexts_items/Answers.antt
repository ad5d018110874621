use Rattle.std.proofs.Common.{sym, subst}
use Rattle.lmn_adequacy_turns.proofs.ReadAgain.{root_mem as root_there}
use Rattle.lmn_store_heap.specs.Heap.{IsMem}
use Rattle.lmn_solid_firing.specs.Making.{AreThere}
use Rattle.lmn_solid_firing.proofs.Laying.{named_there}
use Rattle.lmn_solid_tables.specs.Flats.{heap_of}
use Rattle.lmn_receipt_search.proofs.sizes.contexts_items.Goals as goal

pub context_items-requires : goal.context_items-requires
context_items-requires c =
    let h = heap_of c.args.flat.now in
    subst (IsMem h) (sym c.membrane_of-membrane.ensures) (named_there h (root_there h c.requires.valid) c.as_slice.result.now (subst (AreThere h) (sym c.as_slice.ensures) c.requires.there) _)
