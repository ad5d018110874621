use Rattle.std.proofs.Common.{◌∙◌, ◌≤◌, ◌∷◌, [], refl, sym, ap, subst}
use Rattle.lmn_store_heap.specs.Heap.{IsMem, spare_of, rule_added}
use Rattle.lmn_store_slab.specs.Kept.{Kept, heap_of}
use Rattle.lmn_store_slab.proofs.RulePairs.{rule_less, rule_pair}
use Rattle.lmn_store_slab.proofs.slab_store.SlabStoreLinkStore.add_rule.Goals as goal

pub overflow_sub-self : goal.overflow_sub-self
overflow_sub-self c =
    rule_less _ _ _ _ c.self.invariant c.args.m (c.args.k ∷ []) (subst (λ (z : Kept). IsMem (heap_of z) c.args.m) (sym c.self.view_is) c.requires.mem)
    (subst (λ (z : Kept). 1 ≤ spare_of (heap_of z) c.args.m) (sym c.self.view_is) c.requires.spare)

pub invariant_of-self : goal.invariant_of-self
invariant_of-self c =
    (rule_pair _ _ _ _ c.self.invariant
    (record { atoms = c.self.inside.atoms.slots; mems = c.push_rule.new.mems.slots; atom_lists = c.self.inside.atom_lists; mem_lists = c.self.inside.mem_lists })
    c.args.m (c.args.k ∷ []) (subst (λ (z : Kept). IsMem (heap_of z) c.args.m) (sym c.self.view_is) c.requires.mem)
    (subst (λ (z : Kept). 1 ≤ spare_of (heap_of z) c.args.m) (sym c.self.view_is) c.requires.spare) refl c.push_rule.ensures refl refl).0

pub returns : goal.returns
returns c =
    (rule_pair _ _ _ _ c.self.invariant
    (record { atoms = c.self.inside.atoms.slots; mems = c.push_rule.new.mems.slots; atom_lists = c.self.inside.atom_lists; mem_lists = c.self.inside.mem_lists })
    c.args.m (c.args.k ∷ []) (subst (λ (z : Kept). IsMem (heap_of z) c.args.m) (sym c.self.view_is) c.requires.mem)
    (subst (λ (z : Kept). 1 ≤ spare_of (heap_of z) c.args.m) (sym c.self.view_is) c.requires.spare) refl c.push_rule.ensures refl refl).1
    ∙ ap (λ (z : Kept). rule_added (heap_of z) c.args.m c.args.k) c.self.view_is
