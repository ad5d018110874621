use Rattle.std.proofs.Common.{sym, subst}
use Rattle.lmn_store_heap.specs.Heap.{IsMem}
use Rattle.lmn_solid_tables.specs.Flats.{heap_of}
use Rattle.lmn_solid_firing.specs.Making.{AreThere}
use Rattle.lmn_solid_firing.proofs.Laying.{context_more, named_there}
use Rattle.lmn_solid_firing.proofs.contexts.add_context_membranes.Goals as goal
use Rattle.lmn_adequacy_turns.proofs.ReadAgain.{root_mem as root_there}

pub add_left_membranes-requires-clause-membrane : goal.add_left_membranes-requires-clause-membrane
add_left_membranes-requires-clause-membrane c =
    subst (IsMem (heap_of c.args.flat.now)) (sym c.membrane_of-membrane.ensures)
    (named_there (heap_of c.args.flat.now) (root_there (heap_of c.args.flat.now) c.requires.valid) c.as_slice.result.now (subst (AreThere (heap_of c.args.flat.now)) (sym c.as_slice.ensures) c.requires.there) _)

pub loop-context-preserved : goal.loop-context-preserved
loop-context-preserved c = λ left forms.
    context_more c.args.flat.now c.args.taken.now left c.args.contexts.now c.loop-context.context-index _ c.loop-context-test.true c.args.around c.loop-context.rows.items c.add_left_membranes.new.rows.items _
    c.loop-context.next c.in_ok-next.next c.membrane_of-membrane.result c.writing_of-writing.result c.as_slice.result.now
    c.as_slice.ensures c.membrane_of-membrane.ensures c.writing_of-writing.ensures c.in_ok-next.ensures
    (subst (IsMem (heap_of c.args.flat.now)) (sym c.membrane_of-membrane.ensures)
    (named_there (heap_of c.args.flat.now) (root_there (heap_of c.args.flat.now) c.requires.valid) c.as_slice.result.now (subst (AreThere (heap_of c.args.flat.now)) (sym c.as_slice.ensures) c.requires.there) _))
    c.in_ok-add_left_membranes.ensures forms (c.loop-context.invariant left forms)
