use Rattle.lmn_debug_counting.proofs.Calls.{marked_kept}
use Rattle.lmn_debug_counting.proofs.counting_store.CountingStoreLinkStore.set_mark.Goals as goal

pub invariant_of-self : goal.invariant_of-self
invariant_of-self g c = marked_kept _ _ _ _ _ _ c.set_mark.ensures c.self.invariant
