use Rattle.std.proofs.Common.{◌∙◌, ◌≤◌, refl, sym, ap, subst, arith}
use Rattle.lmn_store_heap.specs.Heap.{IsMem, reserved}
use Rattle.lmn_store_slab.specs.SlabStores.{kept_by}
use Rattle.lmn_store_slab.specs.Kept.{Kept, heap_of}
use Rattle.lmn_store_slab.proofs.RulePairs.{spare_at, reserve_pair}
use Rattle.lmn_store_slab.proofs.slab_store.SlabStoreLinkStore.reserve_rules.Goals as goal

pub invariant_of-self-2 : goal.invariant_of-self-2
invariant_of-self-2 c =
    let low = c.if-n-spare-2.false in
    let more = c.if-n-spare.false in
    let bound = c.self.invariant.counts.bound in
    (reserve_pair _ _ _ _ c.self.invariant
    (record { atoms = c.self.inside.atoms.slots; mems = c.reserve.new.mems.slots; atom_lists = c.self.inside.atom_lists; mem_lists = c.self.inside.mem_lists })
    c.args.m c.args.n c.spare-spare.result (subst (λ (z : Kept). IsMem (heap_of z) c.args.m) (sym c.self.view_is) c.requires)
    (spare_at (kept_by c.self.inside) c.args.m c.index.result.now c.index.ensures ∙ sym c.spare-spare.ensures) (omega (arith, more)) (omega (arith, low, more, bound)) refl c.in_ok-reserve.ensures.ok refl refl).0.0

pub returns-clause-least : goal.returns-clause-least
returns-clause-least c =
    let low = c.if-n-spare-2.false in
    let more = c.if-n-spare.false in
    let bound = c.self.invariant.counts.bound in
    let is = (reserve_pair _ _ _ _ c.self.invariant
    (record { atoms = c.self.inside.atoms.slots; mems = c.reserve.new.mems.slots; atom_lists = c.self.inside.atom_lists; mem_lists = c.self.inside.mem_lists })
    c.args.m c.args.n c.spare-spare.result (subst (λ (z : Kept). IsMem (heap_of z) c.args.m) (sym c.self.view_is) c.requires)
    (spare_at (kept_by c.self.inside) c.args.m c.index.result.now c.index.ensures ∙ sym c.spare-spare.ensures) (omega (arith, more)) (omega (arith, low, more, bound)) refl c.in_ok-reserve.ensures.ok refl refl).1 in
    subst (λ j. c.args.n ≤ j) (sym is) (omega arith)

pub returns-clause-ok : goal.returns-clause-ok
returns-clause-ok c =
    let low = c.if-n-spare-2.false in
    let more = c.if-n-spare.false in
    let bound = c.self.invariant.counts.bound in
    let pair = reserve_pair _ _ _ _ c.self.invariant
    (record { atoms = c.self.inside.atoms.slots; mems = c.reserve.new.mems.slots; atom_lists = c.self.inside.atom_lists; mem_lists = c.self.inside.mem_lists })
    c.args.m c.args.n c.spare-spare.result (subst (λ (z : Kept). IsMem (heap_of z) c.args.m) (sym c.self.view_is) c.requires)
    (spare_at (kept_by c.self.inside) c.args.m c.index.result.now c.index.ensures ∙ sym c.spare-spare.ensures) (omega (arith, more)) (omega (arith, low, more, bound)) refl c.in_ok-reserve.ensures.ok refl refl in
    pair.0.1 ∙ ap (λ (z : Kept). reserved (heap_of z) c.args.m c.args.n) c.self.view_is ∙ ap (reserved (heap_of c.args.self.now) c.args.m) (sym pair.1)
