use Rattle.std.proofs.Common.{refl, ap, ◌∙◌}
use Rattle.lmn_store_heap.specs.Heap.{marked}
use Rattle.lmn_store_slab.specs.Kept.{heap_of}
use Rattle.lmn_store_slab.proofs.HoldsLemmas.{mark_pair}
use Rattle.lmn_store_slab.proofs.slab_store.SlabStoreLinkStore.set_mark.Goals as goal

pub invariant_of-self : goal.invariant_of-self
invariant_of-self c = (mark_pair _ _ _ _ c.self.invariant _ c.args.a c.args.slot c.args.v c.set_mark.ensures refl refl refl).0

pub returns : goal.returns
returns c =
    (mark_pair _ _ _ _ c.self.invariant
    (record { atoms = c.set_mark.new.atoms.slots; mems = c.self.inside.mems.slots; atom_lists = c.self.inside.atom_lists; mem_lists = c.self.inside.mem_lists })
    c.args.a c.args.slot c.args.v c.set_mark.ensures refl refl refl).1
    ∙ ap (λ z. marked (heap_of z) c.args.a c.args.slot c.args.v) c.self.view_is
