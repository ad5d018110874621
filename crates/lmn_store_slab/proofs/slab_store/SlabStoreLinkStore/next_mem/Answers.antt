use Rattle.std.proofs.Common.{◌≡◌, ◌∙◌, sym, ap, subst, IfSome, Some}
use Rattle.lmn_store_heap.specs.Heap.{IsPlacedMem, parent_of}
use Rattle.lmn_store_slab.specs.Cells.{mem_place_by}
use Rattle.lmn_store_slab.specs.Kept.{Kept, heap_of}
use Rattle.lmn_store_slab.proofs.HoldsLemmas.{own_mem_list_there, mem_list_of}
use Rattle.lmn_store_slab.proofs.ReadLemmas.{next_parents}
use Rattle.lmn_store_slab.proofs.slab_store.SlabStoreLinkStore.next_mem.Goals as goal

pub next-requires-clause-list : goal.next-requires-clause-list
next-requires-clause-list c =
    own_mem_list_there _ _ _ _ c.self.invariant c.args.n c.unwrap-list.result c.index.result.now c.index.ensures c.unwrap-list.ensures
    (subst (λ (z : Kept). IsPlacedMem (heap_of z) c.args.n) (sym c.self.view_is) c.requires)

pub returns-clause-parent : goal.returns-clause-parent
returns-clause-parent c =
    subst (λ (z : Kept). IfSome c.next.result (λ b. parent_of (heap_of z) b ≡ parent_of (heap_of z) c.args.n)) c.self.view_is
    (next_parents _ _ _ _ c.self.invariant c.args.n c.unwrap-list.result
    (mem_list_of _ _ _ _ c.self.invariant c.args.n c.index.result.now c.index.ensures ∙ ap (λ z. Some (mem_place_by z)) c.unwrap-list.ensures) c.next.result c.next.ensures)
