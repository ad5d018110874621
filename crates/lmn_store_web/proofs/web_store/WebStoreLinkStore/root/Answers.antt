use Rattle.std.proofs.Common.{subst}
use Rattle.lmn_store_heap.specs.Sound.{AtMost, Sound}
use Rattle.lmn_store_counts.specs.Counts.{BOUND}
use Rattle.lmn_store_web.specs.WebHeaps.{KeptWeb, heap_of}
use Rattle.lmn_store_web.specs.WebStores.{kept_by}
use Rattle.lmn_store_counts.proofs.CountLemmas.{at_most}
use Rattle.lmn_store_web.proofs.SoundLemmas.{heap_sound, merged_formed}
use Rattle.lmn_store_web.proofs.web_store.WebStoreLinkStore.root.Goals as goal

pub returns-clause-sound : goal.returns-clause-sound
returns-clause-sound c = subst (λ (z : KeptWeb). Sound (heap_of z)) c.self.view_is (heap_sound _ _ _ c.self.invariant.store.stored c.listed.ensures c.paired.ensures (merged_formed c.self.inside.web))

pub returns-clause-few : goal.returns-clause-few
returns-clause-few c = subst (λ (z : KeptWeb). AtMost BOUND (heap_of z)) c.self.view_is (at_most (heap_of (kept_by c.self.inside)) _ _ _ c.self.invariant.store.counts)
