use Rattle.std.proofs.Common.{ap, subst, sym}
use Rattle.lmn_store_heap.specs.Heap.{Heap}
use Rattle.lmn_debug_counting.specs.Tallies.{IsKept}
use Rattle.lmn_debug_counting.proofs.counting_store.CountingStoreLinkStore.awake_from.Goals as goal

pub invariant_of-self : goal.invariant_of-self
invariant_of-self g c = subst (λ u. IsKept u c.self.inside.tally) (sym (ap (λ (h : Heap). h.atoms) c.awake_from.ensures.same)) c.self.invariant
