use Rattle.std.proofs.Common.{◌∙◌, ◌<◌, refl, sym, ap, subst}
use Rattle.lmn_store_heap.specs.Heap.{link_of, arity_of, joined}
use Rattle.lmn_store_slab.specs.Kept.{Kept, heap_of}
use Rattle.lmn_store_slab.proofs.HoldsLemmas.{join_pair}
use Rattle.lmn_store_slab.proofs.slab_store.SlabStoreLinkStore.join.Goals as goal

pub invariant_of-self : goal.invariant_of-self
invariant_of-self c =
    (join_pair _ _ _ _ c.self.invariant _ c.args.a c.args.i c.args.b c.args.j
    (subst (λ (z : Kept). c.args.i < arity_of (heap_of z) c.args.a) (sym c.self.view_is) c.requires.i)
    (subst (λ (z : Kept). c.args.j < arity_of (heap_of z) c.args.b) (sym c.self.view_is) c.requires.j)
    c.requires.differ c.partner-first.result c.partner-second.result
    (ap (λ (z : Kept). link_of (heap_of z) c.args.a c.args.i) c.self.view_is ∙ c.partner-first.ensures.link)
    (ap (λ (z : Kept). link_of (heap_of z) c.args.b c.args.j) c.self.view_is ∙ c.partner-second.ensures.link)
    _ _ _ c.clear_link.ensures c.clear_link-2.ensures c.set_link.ensures c.set_link-2.ensures refl refl refl).0

pub returns : goal.returns
returns c =
    (join_pair _ _ _ _ c.self.invariant
    (record { atoms = c.set_link-2.new.atoms.slots; mems = c.self.inside.mems.slots; atom_lists = c.self.inside.atom_lists; mem_lists = c.self.inside.mem_lists })
    c.args.a c.args.i c.args.b c.args.j
    (subst (λ (z : Kept). c.args.i < arity_of (heap_of z) c.args.a) (sym c.self.view_is) c.requires.i)
    (subst (λ (z : Kept). c.args.j < arity_of (heap_of z) c.args.b) (sym c.self.view_is) c.requires.j)
    c.requires.differ c.partner-first.result c.partner-second.result
    (ap (λ (z : Kept). link_of (heap_of z) c.args.a c.args.i) c.self.view_is ∙ c.partner-first.ensures.link)
    (ap (λ (z : Kept). link_of (heap_of z) c.args.b c.args.j) c.self.view_is ∙ c.partner-second.ensures.link)
    _ _ _ c.clear_link.ensures c.clear_link-2.ensures c.set_link.ensures c.set_link-2.ensures refl refl refl).1
    ∙ ap (λ (z : Kept). joined (heap_of z) c.args.a c.args.i c.args.b c.args.j) c.self.view_is
