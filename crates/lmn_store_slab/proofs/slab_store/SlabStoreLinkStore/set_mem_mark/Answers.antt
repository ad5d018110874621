use Rattle.std.proofs.Common.{refl, ap, ◌∙◌}
use Rattle.lmn_store_heap.specs.Heap.{mem_marked, mem_with_mark}
use Rattle.lmn_store_slab.specs.Kept.{heap_of}
use Rattle.lmn_store_slab.proofs.HoldsLemmas.{mem_pair, mems_alter}
use Rattle.lmn_store_slab.proofs.slab_store.SlabStoreLinkStore.set_mem_mark.Goals as goal

pub invariant_of-self : goal.invariant_of-self
invariant_of-self c =
    (mem_pair _ _ _ _ c.self.invariant _ c.args.m (mem_with_mark c.args.v) (λ xs ys x. refl) (λ x. refl) refl c.set_mem_mark.ensures refl refl _ _
    (mems_alter _ _ _ _ _ c.args.m (mem_with_mark c.args.v) (λ y. refl) (λ y. refl) c.self.invariant.counts)).0

pub returns : goal.returns
returns c =
    (mem_pair _ _ _ _ c.self.invariant
    (record { atoms = c.self.inside.atoms.slots; mems = c.set_mem_mark.new.mems.slots; atom_lists = c.self.inside.atom_lists; mem_lists = c.self.inside.mem_lists })
    c.args.m (mem_with_mark c.args.v) (λ xs ys x. refl) (λ x. refl) refl c.set_mem_mark.ensures refl refl _ _
    (mems_alter _ _ _ _ _ c.args.m (mem_with_mark c.args.v) (λ y. refl) (λ y. refl) c.self.invariant.counts)).1
    ∙ ap (λ z. mem_marked (heap_of z) c.args.m c.args.v) c.self.view_is
