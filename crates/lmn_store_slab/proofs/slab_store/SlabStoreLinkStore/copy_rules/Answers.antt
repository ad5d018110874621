use Rattle.std.proofs.Common.{◌∙◌, ◌≤◌, length, refl, sym, ap, subst, arith}
use Rattle.lmn_store_heap.specs.Heap.{IsMem, spare_of, rules_in, rules_copied}
use Rattle.lmn_store_slab.specs.Kept.{Kept, heap_of}
use Rattle.lmn_store_slab.proofs.RulePairs.{copy_less, copy_pair}
use Rattle.lmn_store_slab.proofs.slab_store.SlabStoreLinkStore.copy_rules.Goals as goal

pub overflow_add-self : goal.overflow_add-self
overflow_add-self c =
    let less = copy_less _ _ _ _ c.self.invariant c.args.m c.args.n (subst (λ (z : Kept). IsMem (heap_of z) c.args.n) (sym c.self.view_is) c.requires.n)
    (subst (λ (z : Kept). length (rules_in (heap_of z) c.args.m) ≤ spare_of (heap_of z) c.args.n) (sym c.self.view_is) c.requires.spare) _ c.append_rules-count.ensures.count in
    let bound = c.self.invariant.counts.bound in
    omega (arith, less, bound)

pub overflow_sub-self : goal.overflow_sub-self
overflow_sub-self c =
    copy_less _ _ _ _ c.self.invariant c.args.m c.args.n (subst (λ (z : Kept). IsMem (heap_of z) c.args.n) (sym c.self.view_is) c.requires.n)
    (subst (λ (z : Kept). length (rules_in (heap_of z) c.args.m) ≤ spare_of (heap_of z) c.args.n) (sym c.self.view_is) c.requires.spare) _ c.append_rules-count.ensures.count

pub invariant_of-self : goal.invariant_of-self
invariant_of-self c =
    (copy_pair _ _ _ _ c.self.invariant c.args.m c.args.n (subst (λ (z : Kept). IsMem (heap_of z) c.args.n) (sym c.self.view_is) c.requires.n)
    (subst (λ (z : Kept). length (rules_in (heap_of z) c.args.m) ≤ spare_of (heap_of z) c.args.n) (sym c.self.view_is) c.requires.spare) _ c.append_rules-count.ensures.count
    (record { atoms = c.self.inside.atoms.slots; mems = c.append_rules-count.new.mems.slots; atom_lists = c.self.inside.atom_lists; mem_lists = c.self.inside.mem_lists })
    refl c.append_rules-count.ensures.mems refl refl).0

pub returns : goal.returns
returns c =
    (copy_pair _ _ _ _ c.self.invariant c.args.m c.args.n (subst (λ (z : Kept). IsMem (heap_of z) c.args.n) (sym c.self.view_is) c.requires.n)
    (subst (λ (z : Kept). length (rules_in (heap_of z) c.args.m) ≤ spare_of (heap_of z) c.args.n) (sym c.self.view_is) c.requires.spare) _ c.append_rules-count.ensures.count
    (record { atoms = c.self.inside.atoms.slots; mems = c.append_rules-count.new.mems.slots; atom_lists = c.self.inside.atom_lists; mem_lists = c.self.inside.mem_lists })
    refl c.append_rules-count.ensures.mems refl refl).1
    ∙ ap (λ (z : Kept). rules_copied (heap_of z) c.args.m c.args.n) c.self.view_is
