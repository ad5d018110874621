use Rattle.std.proofs.Common.{subst, sym, ◌≡◌, IfSome, Some, ℕ}
use Rattle.std.specs.Option.{option_map}
use Rattle.lmn_store_heap.specs.Lists.{from, after}
use Rattle.lmn_store_heap.specs.Heap.{IsPlacedMem, parent_of, mems_in}
use Rattle.lmn_web_cells.specs.CellIds.{cell_id}
use Rattle.lmn_store_web.specs.WebHeaps.{KeptWeb, heap_of}
use Rattle.lmn_store_web.proofs.SoundLemmas.{merged_formed}
use Rattle.lmn_store_web.proofs.CallLemmas.{mem_has_home, next_mem_list, next_mem_parent}
use Rattle.lmn_store_web.proofs.web_store.WebStoreLinkStore.next_mem.Goals as goal

pub next-requires : goal.next-requires
next-requires c = mem_has_home _ _ _ c.self.invariant.store.stored c.listed.ensures (cell_id c.args.n) (subst (λ (z : KeptWeb). IsPlacedMem (heap_of z) (cell_id c.args.n)) (sym c.self.view_is) c.requires)

pub returns-clause-list : goal.returns-clause-list
returns-clause-list c =
    let a = cell_id c.args.n in
    subst (λ (z : KeptWeb). (m : ℕ) → parent_of (heap_of z) a ≡ Some m → from (option_map cell_id c.next.result) (mems_in (heap_of z) m) ≡ after a (mems_in (heap_of z) m)) c.self.view_is
    (next_mem_list _ _ _ c.self.invariant.store.stored c.listed.ensures c.paired.ensures (merged_formed c.self.inside.web) (option_map cell_id c.next.result) a c.next.ensures.list)

pub returns-clause-parent : goal.returns-clause-parent
returns-clause-parent c =
    let a = cell_id c.args.n in
    subst (λ (z : KeptWeb). IfSome c.next.result (λ b. parent_of (heap_of z) (cell_id b) ≡ parent_of (heap_of z) a)) c.self.view_is
    (next_mem_parent _ _ _ c.self.invariant.store.stored c.listed.ensures c.paired.ensures (merged_formed c.self.inside.web) cell_id c.next.result a
    (subst (λ (z : KeptWeb). IsPlacedMem (heap_of z) a) (sym c.self.view_is) c.requires) c.next.ensures.list)
