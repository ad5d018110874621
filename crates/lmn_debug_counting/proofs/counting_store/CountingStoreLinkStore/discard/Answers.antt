use Rattle.lmn_debug_counting.proofs.Calls.{discarded_kept}
use Rattle.lmn_debug_counting.proofs.counting_store.CountingStoreLinkStore.discard.Goals as goal

pub invariant_of-self : goal.invariant_of-self
invariant_of-self g c = discarded_kept (g.S.LinkStore.heap c.self.inside.store) (g.S.LinkStore.heap c.discard.new.self) c.self.inside.tally c.discard.ensures c.self.invariant
