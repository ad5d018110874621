use Rattle.lmn_store_heap.specs.Heap.{made_mem}
use Rattle.lmn_debug_counting.proofs.Calls.{tried_kept}
use Rattle.lmn_debug_counting.proofs.counting_store.CountingStoreLinkStore.make_mem.Goals as goal

pub invariant_of-self : goal.invariant_of-self
invariant_of-self g c = tried_kept (λ m. made_mem (g.S.LinkStore.heap c.self.inside.store) (g.S.LinkStore.mem_id m)) _ _ _ c.make_mem.result (λ m k. k) c.make_mem.ensures.ok c.make_mem.ensures.err c.self.invariant
