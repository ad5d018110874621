use Rattle.std.proofs.Common.{subst, sym}
use Rattle.lmn_store_heap.specs.Heap.{IsMem}
use Rattle.lmn_web_cells.specs.CellIds.{cell_id}
use Rattle.lmn_web_merging.specs.Keepers.{merged_by}
use Rattle.lmn_store_web.specs.WebHeaps.{KeptWeb, heap_of}
use Rattle.lmn_store_web.specs.WebStores.{kept_by, HasRules}
use Rattle.lmn_store_web.proofs.ReadLemmas.{mem_there}
use Rattle.lmn_store_web.proofs.TableLemmas.{has_rules}
use Rattle.lmn_store_web.proofs.web_store.WebStore.place_of_rules.Goals as goal

pub place_of_rules-requires : goal.place_of_rules-requires
place_of_rules-requires c =
    let m = cell_id c.args.m in
    let k = kept_by c.self.inside in
    let i = mem_there k.posts k.table (merged_by k.web) m (subst (λ (z : KeptWeb). IsMem (heap_of z) m) (sym c.self.view_is) c.requires) in
    c.self.invariant.store.stored.rules m i.1 i.2 i.3

pub returns : goal.returns
returns c =
    let m = cell_id c.args.m in
    let k = kept_by c.self.inside in
    subst (λ (z : KeptWeb). HasRules z.table (merged_by z.web) m c.place_of_rules.result) c.self.view_is
    (has_rules k.posts k.table (merged_by k.web) c.self.invariant.store.stored m c.place_of_rules.result (subst (λ (z : KeptWeb). IsMem (heap_of z) m) (sym c.self.view_is) c.requires) c.place_of_rules.ensures)
