use Rattle.lmn_debug_counting.proofs.Calls.{finished_kept}
use Rattle.lmn_debug_counting.proofs.counting_store.CountingStoreLinkStore.finish.Goals as goal

pub invariant_of-self : goal.invariant_of-self
invariant_of-self g c = finished_kept _ _ _ c.finish.ensures c.self.invariant
