use Rattle.std.proofs.Common.{subst, sym, ◌≡◌, ◌∙◌}
use Rattle.lmn_store_heap.specs.Heap.{IsMem}
use Rattle.lmn_web_cells.specs.CellIds.{cell_id}
use Rattle.lmn_web_merging.specs.Keepers.{merged_by}
use Rattle.lmn_store_web.specs.WebHeaps.{KeptWeb, heap_of}
use Rattle.lmn_store_web.specs.WebStores.{kept_by}
use Rattle.lmn_store_web.proofs.ReadLemmas.{mem_there, mem_mark_is}
use Rattle.lmn_store_web.proofs.web_store.WebStoreLinkStore.mem_mark.Goals as goal
use Rattle.lmn_store_heap.specs.Heap.{mem_mark_of}

pub returns : goal.returns
returns c =
    let m = cell_id c.args.m in
    let k = kept_by c.self.inside in
    let i = mem_there k.posts k.table (merged_by k.web) m (subst (λ (z : KeptWeb). IsMem (heap_of z) m) (sym c.self.view_is) c.requires) in
    subst (λ (z : KeptWeb). c.mark.result ≡ mem_mark_of (heap_of z) m) c.self.view_is (c.mark.ensures ∙ sym (mem_mark_is k.posts k.table (merged_by k.web) m i.1 i.2 i.3))

pub mark-requires-clause-there : goal.mark-requires-clause-there
mark-requires-clause-there c =
    let m = cell_id c.args.m in let k = kept_by c.self.inside in
    (mem_there k.posts k.table (merged_by k.web) m (subst (λ (z : KeptWeb). IsMem (heap_of z) m) (sym c.self.view_is) c.requires)).0
