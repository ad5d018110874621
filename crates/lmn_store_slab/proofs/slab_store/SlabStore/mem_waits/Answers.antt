use Rattle.std.proofs.Common.{arith}
use Rattle.lmn_store_slab.proofs.HoldsLemmas.{mem_line_there}
use Rattle.lmn_store_slab.proofs.slab_store.SlabStore.mem_waits.Goals as goal

pub count-requires : goal.count-requires
count-requires c = mem_line_there _ _ _ _ c.self.invariant 0 (omega arith)
