use Rattle.std.proofs.Common.{arith, subst, sym, ◌+◌, ◌-◌, ◌≡◌}
use Rattle.lmn_store_heap.specs.Sound.{AllInPlace, IsTree, item_count_in, flat}
use Rattle.lmn_store_slab.specs.Kept.{heap_of}
use Rattle.lmn_store_slab.proofs.BoundLemmas.{items_are, some_mem}
use Rattle.lmn_store_slab.proofs.slab_store.SlabStoreLinkStore.items.Goals as goal

pub overflow_sub-result : goal.overflow_sub-result
overflow_sub-result c = let w = some_mem _ _ _ _ c.self.invariant in omega arith

pub returns : goal.returns
returns c f t =
    let w = some_mem _ _ _ _ c.self.invariant in
    let e = items_are _ _ _ _ c.self.invariant (subst (λ z. AllInPlace (heap_of z)) (sym c.self.view_is) c.requires) f (subst (λ z. IsTree (heap_of z) f) (sym c.self.view_is) t) in
    subst (λ z. c.self.inside.atom_count + c.self.inside.mem_count - 1 + 1 ≡ item_count_in (heap_of z) (flat f)) c.self.view_is (omega arith)
