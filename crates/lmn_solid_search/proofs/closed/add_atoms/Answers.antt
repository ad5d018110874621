use Rattle.lmn_store_heap.specs.Heap.{atoms_in}
use Rattle.lmn_solid_tables.specs.Flats.{heap_of}
use Rattle.lmn_solid_search.proofs.ClosingLemmas.{atoms_more, atoms_all}
use Rattle.lmn_solid_search.proofs.closed.add_atoms.Goals as goal
use Rattle.lmn_adequacy_heaps.proofs.OutOf.{index_in as item_in}

pub atoms-requires : goal.atoms-requires
atoms-requires c = c.requires.membranes _ (item_in c.args.membranes.now c.loop-membrane.membrane-index c.loop-membrane-test.true)

pub loop-membrane-preserved : goal.loop-membrane-preserved
loop-membrane-preserved c = atoms_more (atoms_in (heap_of c.args.flat.now)) c.args.membranes.now c.args.list.now c.loop-membrane.list c.add_all.new.list c.atoms.result.now c.loop-membrane.membrane-index c.loop-membrane-test.true c.atoms.ensures c.in_ok-add_all.ensures c.loop-membrane.invariant

pub returns : goal.returns
returns c = atoms_all (atoms_in (heap_of c.args.flat.now)) c.args.membranes.now c.args.list.now c.loop-membrane.list c.loop-membrane.membrane-index c.loop-membrane-test.false c.loop-membrane.invariant
