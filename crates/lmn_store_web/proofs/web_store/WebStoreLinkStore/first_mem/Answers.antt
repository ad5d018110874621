use Rattle.std.proofs.Common.{subst, sym, ◌≡◌, IfSome, Some}
use Rattle.std.specs.Option.{option_map}
use Rattle.lmn_store_heap.specs.Lists.{from}
use Rattle.lmn_store_heap.specs.Heap.{IsMem, parent_of, mems_in}
use Rattle.lmn_web_cells.specs.CellIds.{cell_id}
use Rattle.lmn_store_web.specs.WebHeaps.{KeptWeb, heap_of}
use Rattle.lmn_store_web.specs.WebStores.{kept_by}
use Rattle.lmn_web_merging.specs.Keepers.{merged_by}
use Rattle.lmn_store_web.proofs.CallLemmas.{first_mem_list, first_mem_parent}
use Rattle.lmn_store_web.proofs.ReadLemmas.{mem_there}
use Rattle.lmn_store_web.proofs.web_store.WebStoreLinkStore.first_mem.Goals as goal

pub first-requires : goal.first-requires
first-requires c =
    let m = cell_id c.args.m in let k = kept_by c.self.inside in
    (mem_there k.posts k.table (merged_by k.web) m (subst (λ (z : KeptWeb). IsMem (heap_of z) m) (sym c.self.view_is) c.requires)).1

pub returns-clause-list : goal.returns-clause-list
returns-clause-list c =
    let m = cell_id c.args.m in
    subst (λ (z : KeptWeb). from (option_map cell_id c.first.result) (mems_in (heap_of z) m) ≡ mems_in (heap_of z) m) c.self.view_is
    (first_mem_list _ _ _ c.self.invariant.store.stored c.listed.ensures cell_id c.first.result m (subst (λ (z : KeptWeb). IsMem (heap_of z) m) (sym c.self.view_is) c.requires) c.first.ensures.list)

pub returns-clause-parent : goal.returns-clause-parent
returns-clause-parent c =
    let m = cell_id c.args.m in
    subst (λ (z : KeptWeb). IfSome c.first.result (λ n. parent_of (heap_of z) (cell_id n) ≡ Some m)) c.self.view_is
    (first_mem_parent _ _ _ c.self.invariant.store.stored c.listed.ensures cell_id c.first.result m (subst (λ (z : KeptWeb). IsMem (heap_of z) m) (sym c.self.view_is) c.requires) c.first.ensures.list)
