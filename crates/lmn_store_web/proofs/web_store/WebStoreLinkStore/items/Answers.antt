use Rattle.std.proofs.Common.{◌≡◌, ◌+◌, ◌-◌, subst, sym, arith}
use Rattle.lmn_store_heap.specs.Sound.{AllInPlace, IsTree, flat, item_count_in}
use Rattle.lmn_web_merging.specs.Keepers.{merged_by}
use Rattle.lmn_store_web.specs.WebHeaps.{KeptWeb, heap_of}
use Rattle.lmn_store_web.specs.WebStores.{kept_by}
use Rattle.lmn_store_web.proofs.SoundLemmas.{heap_sound, merged_formed, root_there}
use Rattle.lmn_store_counts.proofs.CountLemmas.{items_are, some_mem}
use Rattle.lmn_store_web.proofs.web_store.WebStoreLinkStore.items.Goals as goal

pub overflow_sub-result : goal.overflow_sub-result
overflow_sub-result c =
    let k = kept_by c.self.inside in
    let inv = c.self.invariant.store.stored in
    let w = some_mem (heap_of k) _ _ _ c.self.invariant.store.counts (root_there k.posts k.table (merged_by k.web) inv c.listed.ensures c.paired.ensures (merged_formed k.web)) in let sum = c.self.invariant.sum in omega (arith, w, sum)

pub overflow_sub-result-2 : goal.overflow_sub-result-2
overflow_sub-result-2 c =
    let k = kept_by c.self.inside in
    let inv = c.self.invariant.store.stored in
    let w = some_mem (heap_of k) _ _ _ c.self.invariant.store.counts (root_there k.posts k.table (merged_by k.web) inv c.listed.ensures c.paired.ensures (merged_formed k.web)) in let sum = c.self.invariant.sum in omega (arith, w, sum)

pub returns : goal.returns
returns c f t =
    let k = kept_by c.self.inside in
    let inv = c.self.invariant.store.stored in
    let w = some_mem (heap_of k) _ _ _ c.self.invariant.store.counts (root_there k.posts k.table (merged_by k.web) inv c.listed.ensures c.paired.ensures (merged_formed k.web)) in
    let e = items_are (heap_of k) (heap_sound k.posts k.table (merged_by k.web) inv c.listed.ensures c.paired.ensures (merged_formed k.web)) _ _ _ c.self.invariant.store.counts
    (subst (λ (z : KeptWeb). AllInPlace (heap_of z)) (sym c.self.view_is) c.requires) f (subst (λ (z : KeptWeb). IsTree (heap_of z) f) (sym c.self.view_is) t) in
    subst (λ (z : KeptWeb). c.self.inside.count - c.self.inside.spare_count - 1 + 1 ≡ item_count_in (heap_of z) (flat f)) c.self.view_is (let sum = c.self.invariant.sum in omega (arith, w, e, sum))
