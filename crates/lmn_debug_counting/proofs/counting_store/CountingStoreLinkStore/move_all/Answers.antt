use Rattle.lmn_debug_counting.proofs.Calls.{moved_kept}
use Rattle.lmn_debug_counting.proofs.counting_store.CountingStoreLinkStore.move_all.Goals as goal

pub invariant_of-self : goal.invariant_of-self
invariant_of-self g c = moved_kept _ _ _ _ _ c.move_all.ensures c.self.invariant
