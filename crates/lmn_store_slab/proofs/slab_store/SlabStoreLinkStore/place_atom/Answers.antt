use Rattle.std.proofs.Common.{refl, sym, ap, subst, ◌∙◌}
use Rattle.lmn_store_heap.specs.Heap.{IsMemInPlace, placed}
use Rattle.lmn_store_slab.specs.Kept.{heap_of}
use Rattle.lmn_store_slab.proofs.HoldsLemmas.{first_number, first_only, place_pair}
use Rattle.lmn_store_slab.proofs.slab_store.SlabStoreLinkStore.place_atom.Goals as goal

pub move_last-requires-clause-number : goal.move_last-requires-clause-number
move_last-requires-clause-number c = first_number _ _ _ _ c.self.invariant c.unwrap-a.result (rw c.unwrap-a.ensures at c.first.ensures)

pub move_last-requires-clause-only : goal.move_last-requires-clause-only
move_last-requires-clause-only c = first_only _ _ _ _ c.self.invariant c.unwrap-a.result (rw c.unwrap-a.ensures at c.first.ensures)

pub invariant_of-self : goal.invariant_of-self
invariant_of-self c =
    (place_pair _ _ _ _ c.self.invariant c.unwrap-a.result (rw c.unwrap-a.ensures at c.first.ensures) _ c.args.m (subst (λ z. IsMemInPlace (heap_of z) c.args.m) (sym c.self.view_is) c.requires.mem)
    c.set_list.ensures refl c.move_last.ensures.lists c.move_last.ensures.sizes refl).0

pub returns-clause-placed : goal.returns-clause-placed
returns-clause-placed c =
    (place_pair _ _ _ _ c.self.invariant c.unwrap-a.result (rw c.unwrap-a.ensures at c.first.ensures)
    (record { atoms = c.set_list.new.atoms.slots; mems = c.self.inside.mems.slots; atom_lists = c.move_last.new.self; mem_lists = c.self.inside.mem_lists })
    c.args.m (subst (λ z. IsMemInPlace (heap_of z) c.args.m) (sym c.self.view_is) c.requires.mem)
    c.set_list.ensures refl c.move_last.ensures.lists c.move_last.ensures.sizes refl).1
    ∙ ap (λ z. placed (heap_of z) c.args.m c.unwrap-a.result) c.self.view_is
