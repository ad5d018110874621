use Rattle.std.proofs.Common.{subst, sym, ap, ◌≤◌, ◌+◌, ◌∙◌, ◌∷◌, [], arith}
use Rattle.lmn_store_heap.specs.Heap.{IsMem, spare_of, rule_added}
use Rattle.lmn_web_cells.specs.CellIds.{cell_id}
use Rattle.lmn_web_merging.specs.Keepers.{merged_by}
use Rattle.lmn_store_web.specs.WebHeaps.{KeptWeb, heap_of}
use Rattle.lmn_store_web.specs.WebStores.{kept_by, HasRules}
use Rattle.lmn_store_web.proofs.RulingLemmas.{row_room, fewer, more_stored, more_counts, more_heap}
use Rattle.lmn_store_web.proofs.IndexLemmas.{index_kept}
use Rattle.lmn_store_web.proofs.MemLists.{seen_by, seen_rules}
use Rattle.lmn_store_heap.specs.Heap.{Heap}
use Rattle.std.proofs.Common.{refl}
use Rattle.lmn_store_web.proofs.web_store.WebStoreLinkStore.add_rule.Goals as goal

pub push-requires : goal.push-requires
push-requires c =
    let m = cell_id c.args.m in
    let k = kept_by c.self.inside in
    let s = subst (λ (z : KeptWeb). IsMem (heap_of z) m) (sym c.self.view_is) c.requires.mem in
    let h = subst (λ (z : KeptWeb). HasRules z.table (merged_by z.web) m c.place_of_rules-place.result) (sym c.self.view_is) c.place_of_rules-place.ensures in
    row_room k.posts k.table (merged_by k.web) c.self.invariant.store.stored m c.place_of_rules-place.result s h 1 (subst (λ (z : KeptWeb). 1 ≤ spare_of (heap_of z) m) (sym c.self.view_is) c.requires.spare)

pub overflow_sub-self : goal.overflow_sub-self
overflow_sub-self c =
    let m = cell_id c.args.m in
    let k = kept_by c.self.inside in
    let s = subst (λ (z : KeptWeb). IsMem (heap_of z) m) (sym c.self.view_is) c.requires.mem in
    let h = subst (λ (z : KeptWeb). HasRules z.table (merged_by z.web) m c.place_of_rules-place.result) (sym c.self.view_is) c.place_of_rules-place.ensures in
    fewer k.posts k.table (merged_by k.web) c.self.invariant.store.stored m c.place_of_rules-place.result s h _ _ _ c.self.invariant.store.counts 1 (subst (λ (z : KeptWeb). 1 ≤ spare_of (heap_of z) m) (sym c.self.view_is) c.requires.spare)

pub invariant_of-self : goal.invariant_of-self
invariant_of-self c =
    let m = cell_id c.args.m in
    let k = kept_by c.self.inside in
    let s = subst (λ (z : KeptWeb). IsMem (heap_of z) m) (sym c.self.view_is) c.requires.mem in
    let h = subst (λ (z : KeptWeb). HasRules z.table (merged_by z.web) m c.place_of_rules-place.result) (sym c.self.view_is) c.place_of_rules-place.ensures in
    let t = more_heap k.posts k.table (merged_by k.web) c.self.invariant.store.stored m c.place_of_rules-place.result s h _ _ _ c.self.invariant.store.counts _ (c.args.k ∷ []) c.push.ensures in
    let less = fewer k.posts k.table (merged_by k.web) c.self.invariant.store.stored m c.place_of_rules-place.result s h _ _ _ c.self.invariant.store.counts 1 (subst (λ (z : KeptWeb). 1 ≤ spare_of (heap_of z) m) (sym c.self.view_is) c.requires.spare) in
    let sum = c.self.invariant.sum in
    record {
      atoms = c.self.invariant.atoms;
      mems = c.self.invariant.mems + 1;
      sum = omega (arith, less, sum);
      store = record {
        stored = more_stored k.posts k.table (merged_by k.web) c.self.invariant.store.stored m c.place_of_rules-place.result s h _ _ _ c.self.invariant.store.counts _ (c.args.k ∷ []) c.push.ensures;
        counts = more_counts k.posts k.table (merged_by k.web) c.self.invariant.store.stored m c.place_of_rules-place.result s h _ _ _ c.self.invariant.store.counts _ (c.args.k ∷ []) c.push.ensures
            (subst (λ (z : KeptWeb). 1 ≤ spare_of (heap_of z) m) (sym c.self.view_is) c.requires.spare);
      };
      index = index_kept _ _ _ _ c.self.invariant.index _ _ refl (λ m. refl) (λ y. ap (λ (u : Heap). seen_by (u.mems y)) t ∙ seen_rules (heap_of k) m (c.args.k ∷ []) y);
    }

pub returns : goal.returns
returns c =
    let m = cell_id c.args.m in
    let k = kept_by c.self.inside in
    let s = subst (λ (z : KeptWeb). IsMem (heap_of z) m) (sym c.self.view_is) c.requires.mem in
    let h = subst (λ (z : KeptWeb). HasRules z.table (merged_by z.web) m c.place_of_rules-place.result) (sym c.self.view_is) c.place_of_rules-place.ensures in
    more_heap k.posts k.table (merged_by k.web) c.self.invariant.store.stored m c.place_of_rules-place.result s h _ _ _ c.self.invariant.store.counts _ (c.args.k ∷ []) c.push.ensures
    ∙ ap (λ (z : KeptWeb). rule_added (heap_of z) m c.args.k) c.self.view_is
