use Rattle.std.proofs.Common.{◌∙◌, refl, sym, ap, subst}
use Rattle.lmn_store_heap.specs.Heap.{IsPlacedMem, taken_mem}
use Rattle.lmn_store_slab.specs.Kept.{Kept, heap_of}
use Rattle.lmn_store_slab.proofs.HoldsLemmas.{own_mem_list_there, take_mem_pair}
use Rattle.lmn_store_slab.proofs.slab_store.SlabStoreLinkStore.take_mem.Goals as goal

pub move_last-requires-clause-from_list : goal.move_last-requires-clause-from_list
move_last-requires-clause-from_list c =
    own_mem_list_there _ _ _ _ c.self.invariant c.args.m c.unwrap-list.result c.index.result.now c.index.ensures c.unwrap-list.ensures
    (subst (λ (z : Kept). IsPlacedMem (heap_of z) c.args.m) (sym c.self.view_is) c.requires)

pub invariant_of-self : goal.invariant_of-self
invariant_of-self c =
    (take_mem_pair _ _ _ _ c.self.invariant c.args.m c.unwrap-list.result c.index.result.now c.index.ensures c.unwrap-list.ensures
    (subst (λ (z : Kept). IsPlacedMem (heap_of z) c.args.m) (sym c.self.view_is) c.requires)
    (record { atoms = c.self.inside.atoms.slots; mems = c.set_mem_list.new.mems.slots; atom_lists = c.self.inside.atom_lists; mem_lists = c.move_last.new.self })
    refl c.set_mem_list.ensures refl c.move_last.ensures.lists c.move_last.ensures.sizes).0

pub returns : goal.returns
returns c =
    (take_mem_pair _ _ _ _ c.self.invariant c.args.m c.unwrap-list.result c.index.result.now c.index.ensures c.unwrap-list.ensures
    (subst (λ (z : Kept). IsPlacedMem (heap_of z) c.args.m) (sym c.self.view_is) c.requires)
    (record { atoms = c.self.inside.atoms.slots; mems = c.set_mem_list.new.mems.slots; atom_lists = c.self.inside.atom_lists; mem_lists = c.move_last.new.self })
    refl c.set_mem_list.ensures refl c.move_last.ensures.lists c.move_last.ensures.sizes).1
    ∙ ap (λ (z : Kept). taken_mem (heap_of z) c.args.m) c.self.view_is
