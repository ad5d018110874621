use Rattle.std.proofs.Common.{subst, sym, ◌∙◌}
use Rattle.lmn_store_heap.specs.Sound.{IsTree}
use Rattle.lmn_web_merging.specs.Keepers.{merged_by}
use Rattle.lmn_store_web.specs.WebHeaps.{KeptWeb, heap_of}
use Rattle.lmn_store_web.specs.WebStores.{kept_by}
use Rattle.lmn_store_web.proofs.SoundLemmas.{heap_sound, merged_formed}
use Rattle.lmn_store_web.proofs.TableLemmas.{mems_counted}
use Rattle.lmn_store_web.proofs.web_store.WebStoreLinkStore.membranes.Goals as goal

pub returns : goal.returns
returns c f t =
    let k = kept_by c.self.inside in
    let inv = c.self.invariant.store.stored in
    c.len.ensures ∙ mems_counted k.posts k.table (merged_by k.web) inv (heap_sound k.posts k.table (merged_by k.web) inv c.listed.ensures c.paired.ensures (merged_formed k.web)) f
    (subst (λ (z : KeptWeb). IsTree (heap_of z) f) (sym c.self.view_is) t)
