use Rattle.lmn_store_slab.specs.Kept.{heap_of}
use Rattle.lmn_test_rows.proofs.PartLemmas.{clean_same}
use Rattle.lmn_test_rows.proofs.parts.size.Goals as goal

pub returns : goal.returns
returns g c = clean_same (heap_of c.part.new.store) (heap_of c.size_of.new.store) c.size_of.ensures.same c.part.ensures.clean
