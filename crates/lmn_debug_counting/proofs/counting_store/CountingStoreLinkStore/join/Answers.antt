use Rattle.lmn_debug_counting.proofs.Calls.{joined_kept}
use Rattle.lmn_debug_counting.proofs.counting_store.CountingStoreLinkStore.join.Goals as goal

pub invariant_of-self : goal.invariant_of-self
invariant_of-self g c = joined_kept _ _ _ _ _ _ _ c.join.ensures c.self.invariant
