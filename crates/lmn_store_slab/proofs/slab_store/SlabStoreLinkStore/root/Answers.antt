use Rattle.std.proofs.Common.{subst}
use Rattle.lmn_store_heap.specs.Sound.{AtMost}
use Rattle.lmn_store_slab.specs.Kept.{heap_of}
use Rattle.lmn_store_counts.specs.Counts.{BOUND}
use Rattle.lmn_store_slab.proofs.BoundLemmas.{at_most}
use Rattle.lmn_store_slab.proofs.slab_store.SlabStoreLinkStore.root.Goals as goal

pub returns-clause-few : goal.returns-clause-few
returns-clause-few c = subst (λ z. AtMost BOUND (heap_of z)) c.self.view_is (at_most _ _ _ _ c.self.invariant)
