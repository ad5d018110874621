use Rattle.lmn_store_slab.specs.Kept.{heap_of}
use Rattle.std.proofs.Common.{refl}
use Rattle.lmn_test_rows.proofs.PartLemmas.{clean_all_taken, ground_placed}
use Rattle.lmn_test_rows.proofs.parts.take.Goals as goal

pub take_part-requires-clause-placed : goal.take_part-requires-clause-placed
take_part-requires-clause-placed g c = ground_placed (heap_of c.part.new.store) (heap_of c.part.new.store) _ _ c.part.ensures.ground refl

pub returns : goal.returns
returns g c = clean_all_taken (heap_of c.part.new.store) (heap_of c.take_part.new.store) c.take_part.ensures.0 c.take_part.ensures.2 c.part.ensures.clean
