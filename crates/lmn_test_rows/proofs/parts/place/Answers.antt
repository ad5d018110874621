use Rattle.lmn_store_slab.specs.Kept.{heap_of}
use Rattle.lmn_test_rows.proofs.PartLemmas.{clean_placed}
use Rattle.lmn_test_rows.proofs.parts.place.Goals as goal

pub returns : goal.returns
returns g c = clean_placed (heap_of c.args.store.now) (heap_of c.place_atom.new.self) _ _ c.place_atom.ensures.placed c.requires
