use Rattle.std.proofs.Common.{subst, sym}
use Rattle.lmn_store_heap.specs.Heap.{IsMem}
use Rattle.lmn_web_cells.specs.CellIds.{cell_id}
use Rattle.lmn_web_merging.specs.Keepers.{merged_by}
use Rattle.lmn_store_web.specs.WebHeaps.{KeptWeb, heap_of}
use Rattle.lmn_store_web.specs.WebStores.{kept_by}
use Rattle.lmn_store_web.proofs.ReadLemmas.{mem_there}
use Rattle.lmn_store_web.proofs.web_store.WebStoreLinkStore.same_mem.Goals as goal

pub same-requires-clause-first : goal.same-requires-clause-first
same-requires-clause-first c =
    let x = cell_id c.args.m in let k = kept_by c.self.inside in
    (mem_there k.posts k.table (merged_by k.web) x (subst (λ (z : KeptWeb). IsMem (heap_of z) x) (sym c.self.view_is) c.requires.m)).0

pub same-requires-clause-second : goal.same-requires-clause-second
same-requires-clause-second c =
    let x = cell_id c.args.n in let k = kept_by c.self.inside in
    (mem_there k.posts k.table (merged_by k.web) x (subst (λ (z : KeptWeb). IsMem (heap_of z) x) (sym c.self.view_is) c.requires.n)).0
