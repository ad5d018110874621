use Rattle.std.proofs.Common.{subst, sym, ap, ◌≡◌, ◌<◌, ◌∙◌, length, List, ℕ}
use Rattle.std.specs.Prelude.{slice_index_or}
use Rattle.lmn_store_heap.specs.Heap.{IsMem, rules_in}
use Rattle.lmn_web_cells.specs.CellIds.{cell_id}
use Rattle.lmn_web_merging.specs.Keepers.{merged_by}
use Rattle.lmn_store_web.specs.WebHeaps.{KeptWeb, heap_of}
use Rattle.lmn_store_web.specs.WebStores.{kept_by, HasRules}
use Rattle.lmn_store_web.proofs.RulingLemmas.{numbers_are}
use Rattle.lmn_store_web.proofs.web_store.WebStoreLinkStore.rule.Goals as goal

pub index-requires : goal.index-requires
index-requires c = (subst (λ (z : KeptWeb). HasRules z.table (merged_by z.web) (cell_id c.args.m) c.place_of_rules-place.result) (sym c.self.view_is) c.place_of_rules-place.ensures).1

pub at-requires : goal.at-requires
at-requires c =
    let m = cell_id c.args.m in
    let k = kept_by c.self.inside in
    let h = subst (λ (z : KeptWeb). HasRules z.table (merged_by z.web) m c.place_of_rules-place.result) (sym c.self.view_is) c.place_of_rules-place.ensures in
    subst (λ (xs : List ℕ). c.args.i < length xs) (numbers_are k.posts k.table (merged_by k.web) c.self.invariant.store.stored m c.place_of_rules-place.result (subst (λ (z : KeptWeb). IsMem (heap_of z) m) (sym c.self.view_is) c.requires.mem) h c.index.result.now c.index.ensures)
    (subst (λ (z : KeptWeb). c.args.i < length (rules_in (heap_of z) m)) (sym c.self.view_is) c.requires.below)

pub returns : goal.returns
returns c =
    let m = cell_id c.args.m in
    let k = kept_by c.self.inside in
    let h = subst (λ (z : KeptWeb). HasRules z.table (merged_by z.web) m c.place_of_rules-place.result) (sym c.self.view_is) c.place_of_rules-place.ensures in
    subst (λ (z : KeptWeb). slice_index_or (rules_in (heap_of z) m) c.args.i 0 ≡ c.at.result) c.self.view_is
    (ap (λ (xs : List ℕ). slice_index_or xs c.args.i 0) (numbers_are k.posts k.table (merged_by k.web) c.self.invariant.store.stored m c.place_of_rules-place.result (subst (λ (z : KeptWeb). IsMem (heap_of z) m) (sym c.self.view_is) c.requires.mem) h c.index.result.now c.index.ensures) ∙ c.at.ensures)
