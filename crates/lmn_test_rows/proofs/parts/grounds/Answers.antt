use Rattle.lmn_store_slab.specs.Kept.{heap_of}
use Rattle.lmn_test_rows.proofs.PartLemmas.{clean_same}
use Rattle.lmn_test_rows.proofs.parts.grounds.Goals as goal

pub returns : goal.returns
returns g c = clean_same (heap_of c.args.store.now) (heap_of c.is_ground.new.store) c.is_ground.ensures.same c.requires
