use Rattle.std.proofs.Common.{refl, sym, ap, subst, ◌∙◌, arith}
use Rattle.lmn_store_heap.specs.Heap.{IsInPlace, taken}
use Rattle.lmn_store_slab.specs.Kept.{heap_of}
use Rattle.lmn_store_slab.proofs.HoldsLemmas.{own_list_there, line_there, take_pair}
use Rattle.lmn_store_slab.proofs.slab_store.SlabStoreLinkStore.take_atom.Goals as goal

pub move_last-requires-clause-from_list : goal.move_last-requires-clause-from_list
move_last-requires-clause-from_list c =
    own_list_there _ _ _ _ c.self.invariant c.args.a c.index.result.now c.index.ensures (subst (λ z. IsInPlace (heap_of z) c.args.a) (sym c.self.view_is) c.requires)

pub move_last-requires-clause-to_list : goal.move_last-requires-clause-to_list
move_last-requires-clause-to_list c = line_there _ _ _ _ c.self.invariant 1 (omega arith)

pub invariant_of-self : goal.invariant_of-self
invariant_of-self c =
    (take_pair _ _ _ _ c.self.invariant c.args.a c.index.result.now c.index.ensures (subst (λ z. IsInPlace (heap_of z) c.args.a) (sym c.self.view_is) c.requires)
    _ c.set_list.ensures refl c.move_last.ensures.lists c.move_last.ensures.sizes refl).0

pub returns : goal.returns
returns c =
    (take_pair _ _ _ _ c.self.invariant c.args.a c.index.result.now c.index.ensures (subst (λ z. IsInPlace (heap_of z) c.args.a) (sym c.self.view_is) c.requires)
    (record { atoms = c.set_list.new.atoms.slots; mems = c.self.inside.mems.slots; atom_lists = c.move_last.new.self; mem_lists = c.self.inside.mem_lists })
    c.set_list.ensures refl c.move_last.ensures.lists c.move_last.ensures.sizes refl).1
    ∙ ap (λ z. taken (heap_of z) c.args.a) c.self.view_is
