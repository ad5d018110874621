use Rattle.lmn_store_slab.specs.Kept.{heap_of}
use Rattle.lmn_test_rows.proofs.MadeLemmas.{atom_placed, made_same}
use Rattle.lmn_test_rows.proofs.making.place.Goals as goal

pub returns : goal.returns
returns g c = made_same _ _ c.place_atom.ensures.placed (atom_placed (heap_of c.args.store.now) c.args.m c.place_atom.result c.requires)
