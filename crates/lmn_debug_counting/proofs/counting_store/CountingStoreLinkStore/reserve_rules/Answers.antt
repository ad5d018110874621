use Rattle.lmn_store_heap.specs.Heap.{reserved, spare_of}
use Rattle.lmn_debug_counting.proofs.Calls.{tried_kept}
use Rattle.lmn_debug_counting.proofs.counting_store.CountingStoreLinkStore.reserve_rules.Goals as goal

pub invariant_of-self : goal.invariant_of-self
invariant_of-self g c =
    let new = g.S.LinkStore.heap c.reserve_rules.new.self in
    tried_kept (λ _. reserved (g.S.LinkStore.heap c.self.inside.store) (g.S.LinkStore.mem_id c.args.m) (spare_of new (g.S.LinkStore.mem_id c.args.m))) _ _ _ c.reserve_rules.result (λ _ k. k) c.reserve_rules.ensures.ok c.reserve_rules.ensures.err c.self.invariant
