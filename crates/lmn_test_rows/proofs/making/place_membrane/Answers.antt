use Rattle.lmn_store_slab.specs.Kept.{heap_of}
use Rattle.lmn_test_rows.proofs.MadeLemmas.{mem_placed, made_same}
use Rattle.lmn_test_rows.proofs.making.place_membrane.Goals as goal

pub returns : goal.returns
returns g c = made_same _ _ c.place_mem-placed.ensures.placed (mem_placed (heap_of c.args.store.now) c.args.m c.place_mem-placed.result (search) c.requires)
