use Rattle.std.proofs.Common.{refl, sym, ap, subst, ◌∙◌}
use Rattle.lmn_store_heap.specs.Heap.{IsMemInPlace, placed_mem}
use Rattle.lmn_store_slab.specs.Kept.{heap_of}
use Rattle.lmn_store_slab.proofs.HoldsLemmas.{first_mem_number, first_mem_only, place_mem_pair}
use Rattle.lmn_store_slab.proofs.slab_store.SlabStoreLinkStore.place_mem.Goals as goal

pub move_last-requires-clause-number : goal.move_last-requires-clause-number
move_last-requires-clause-number c = first_mem_number _ _ _ _ c.self.invariant c.unwrap-n.result (rw c.unwrap-n.ensures at c.first.ensures)

pub move_last-requires-clause-only : goal.move_last-requires-clause-only
move_last-requires-clause-only c = first_mem_only _ _ _ _ c.self.invariant c.unwrap-n.result (rw c.unwrap-n.ensures at c.first.ensures)

pub invariant_of-self : goal.invariant_of-self
invariant_of-self c =
    (place_mem_pair _ _ _ _ c.self.invariant c.unwrap-n.result (rw c.unwrap-n.ensures at c.first.ensures) _ c.args.m (subst (λ z. IsMemInPlace (heap_of z) c.args.m) (sym c.self.view_is) c.requires.mem)
    refl c.set_mem_list.ensures refl c.move_last.ensures.lists c.move_last.ensures.sizes).0

pub returns-clause-placed : goal.returns-clause-placed
returns-clause-placed c =
    (place_mem_pair _ _ _ _ c.self.invariant c.unwrap-n.result (rw c.unwrap-n.ensures at c.first.ensures)
    (record { atoms = c.self.inside.atoms.slots; mems = c.set_mem_list.new.mems.slots; atom_lists = c.self.inside.atom_lists; mem_lists = c.move_last.new.self })
    c.args.m (subst (λ z. IsMemInPlace (heap_of z) c.args.m) (sym c.self.view_is) c.requires.mem)
    refl c.set_mem_list.ensures refl c.move_last.ensures.lists c.move_last.ensures.sizes).1
    ∙ ap (λ z. placed_mem (heap_of z) c.args.m c.unwrap-n.result) c.self.view_is
