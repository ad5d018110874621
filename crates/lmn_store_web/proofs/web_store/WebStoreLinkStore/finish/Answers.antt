use Rattle.std.proofs.Common.{sym, ap, subst, ◌∙◌}
use Rattle.lmn_store_heap.specs.Conditions.{Ready}
use Rattle.lmn_store_heap.specs.Heap.{finished}
use Rattle.lmn_web_merging.specs.Keepers.{merged_by}
use Rattle.lmn_store_web.specs.WebHeaps.{KeptWeb, heap_of}
use Rattle.lmn_store_web.specs.WebStores.{kept_by}
use Rattle.lmn_store_web.specs.Frees.{MayFree}
use Rattle.lmn_store_web.proofs.SoundLemmas.{merged_formed}
use Rattle.lmn_store_web.proofs.FreeLemmas.{frees_both}
use Rattle.lmn_store_web.proofs.EndLemmas.{finish_free, finished_heap}
use Rattle.lmn_store_heap.specs.Heap.{Heap, gone, mem_unless_gone}
use Rattle.lmn_store_counts.proofs.PlaceLemmas.{mem_removes_gone}
use Rattle.lmn_store_web.proofs.FreedIndex.{goes, index_freed}
use Rattle.lmn_store_web.proofs.web_store.WebStoreLinkStore.finish.Goals as goal

pub free_atoms-requires : goal.free_atoms-requires
free_atoms-requires c =
    let k = kept_by c.self.inside in let w = merged_by k.web in
    let h = finish_free k.posts k.table w c.self.invariant.store.stored c.listed.ensures c.paired.ensures (merged_formed k.web) _ _ _ c.self.invariant.store.counts (subst (λ (z : KeptWeb). Ready (heap_of z)) (sym c.self.view_is) c.requires) in
    (k.posts, k.table, c.self.inside.spare_count, record { atoms = c.self.invariant.atoms; mems = c.self.invariant.mems; can = h; sum = c.self.invariant.sum })

pub free_mems-requires : goal.free_mems-requires
free_mems-requires c =
    let k = kept_by c.self.inside in let w = merged_by k.web in
    let h = finish_free k.posts k.table w c.self.invariant.store.stored c.listed.ensures c.paired.ensures (merged_formed k.web) _ _ _ c.self.invariant.store.counts (subst (λ (z : KeptWeb). Ready (heap_of z)) (sym c.self.view_is) c.requires) in
    let may : MayFree k.posts k.posts.gone k.table w c.self.inside.count c.self.inside.spare_count = record { atoms = c.self.invariant.atoms; mems = c.self.invariant.mems; can = h; sum = c.self.invariant.sum } in
    (k.posts, (c.free_atoms.ensures.freed k.posts k.table c.self.inside.spare_count may).0)

pub invariant_of-self : goal.invariant_of-self
invariant_of-self c =
    let k = kept_by c.self.inside in let w = merged_by k.web in
    let h = finish_free k.posts k.table w c.self.invariant.store.stored c.listed.ensures c.paired.ensures (merged_formed k.web) _ _ _ c.self.invariant.store.counts (subst (λ (z : KeptWeb). Ready (heap_of z)) (sym c.self.view_is) c.requires) in
    let may : MayFree k.posts k.posts.gone k.table w c.self.inside.count c.self.inside.spare_count = record { atoms = c.self.invariant.atoms; mems = c.self.invariant.mems; can = h; sum = c.self.invariant.sum } in
    let a = c.free_atoms.ensures.freed k.posts k.table c.self.inside.spare_count may in
    let m = c.free_mems.ensures.freed k.posts a.0 in
    let v = merged_by c.free_mems.new.web in let g = c.free_mems.new.rules.slots in
    let frees = frees_both k.posts k.posts.gone k.table w k.table (merged_by c.free_atoms.new.web) g v a.1 m.1 in
    let heap = finished_heap k.posts k.table w g v c.listed-2.ensures c.self.invariant.store.stored.apart frees (c.free_mems.ensures.atoms ∙ c.free_atoms.ensures.none) c.free_mems.ensures.none in
    record {
      atoms = m.0.atoms;
      mems = m.0.mems;
      sum = m.0.sum;
      store = record { stored = m.0.can.stored; counts = m.0.can.counts };
      index = index_freed k.posts k.table w g v c.self.invariant.store.stored c.listed-2.ensures frees.labels mem_unless_gone gone mem_removes_gone goes (λ y. ap (λ (h : Heap). h.mems y) heap) (λ m e. ((subst (λ (z : KeptWeb). Ready (heap_of z)) (sym c.self.view_is) c.requires).empty m e).1) _ _ c.self.invariant.index;
    }

pub returns : goal.returns
returns c =
    let k = kept_by c.self.inside in let w = merged_by k.web in
    let h = finish_free k.posts k.table w c.self.invariant.store.stored c.listed.ensures c.paired.ensures (merged_formed k.web) _ _ _ c.self.invariant.store.counts (subst (λ (z : KeptWeb). Ready (heap_of z)) (sym c.self.view_is) c.requires) in
    let may : MayFree k.posts k.posts.gone k.table w c.self.inside.count c.self.inside.spare_count = record { atoms = c.self.invariant.atoms; mems = c.self.invariant.mems; can = h; sum = c.self.invariant.sum } in
    let a = c.free_atoms.ensures.freed k.posts k.table c.self.inside.spare_count may in
    let m = c.free_mems.ensures.freed k.posts a.0 in
    let v = merged_by c.free_mems.new.web in let g = c.free_mems.new.rules.slots in
    finished_heap k.posts k.table w g v c.listed-2.ensures c.self.invariant.store.stored.apart (frees_both k.posts k.posts.gone k.table w k.table (merged_by c.free_atoms.new.web) g v a.1 m.1)
    (c.free_mems.ensures.atoms ∙ c.free_atoms.ensures.none) c.free_mems.ensures.none
    ∙ ap (λ (z : KeptWeb). finished (heap_of z)) c.self.view_is
