use Rattle.std.proofs.Common.{subst, sym, ap, ◌≡◌, ◌∙◌}
use Rattle.lmn_store_heap.specs.Heap.{IsMem, atoms_in}
use Rattle.lmn_web_cells.specs.CellIds.{cell_id}
use Rattle.lmn_web_merging.specs.Keepers.{merged_by}
use Rattle.lmn_store_web.specs.WebHeaps.{KeptWeb, heap_of}
use Rattle.lmn_store_web.specs.WebStores.{kept_by}
use Rattle.lmn_store_web.proofs.ReadLemmas.{mem_there, atoms_is}
use Rattle.lmn_store_web.proofs.web_store.WebStoreLinkStore.atoms.Goals as goal
use Rattle.std.proofs.Common.{length}

pub count-requires : goal.count-requires
count-requires c =
    let m = cell_id c.args.m in let k = kept_by c.self.inside in
    (mem_there k.posts k.table (merged_by k.web) m (subst (λ (z : KeptWeb). IsMem (heap_of z) m) (sym c.self.view_is) c.requires)).1

pub returns : goal.returns
returns c =
    let m = cell_id c.args.m in
    let k = kept_by c.self.inside in
    let i = mem_there k.posts k.table (merged_by k.web) m (subst (λ (z : KeptWeb). IsMem (heap_of z) m) (sym c.self.view_is) c.requires) in
    subst (λ (z : KeptWeb). c.count.result ≡ length (atoms_in (heap_of z) m)) c.self.view_is (c.count.ensures ∙ ap length (sym (atoms_is k.posts k.table (merged_by k.web) m i.1 i.2 i.3)))
