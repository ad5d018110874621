use Rattle.std.proofs.Common.{◌∙◌, ◌∷◌, [], ◌++◌, ℕ, List, Some, refl, ap, subst, arith}
use Rattle.lmn_store_heap.specs.Heap.{HeapAtom, alter, made_atom}
use Rattle.lmn_store_slab.specs.Cells.{atoms_in_cells}
use Rattle.lmn_store_slab.specs.Kept.{Kept, heap_of}
use Rattle.lmn_store_slab.proofs.HoldsLemmas.{line_there, fresh_free, grown_pair, make_pair}
use Rattle.lmn_store_slab.proofs.slab_store.SlabStoreLinkStore.make_atom.Goals as goal
use Rattle.lmn_base.proofs.Lists.{on_err}
use Rattle.lmn_base.specs.Lists.{In}

pub returns-in_err-cover-clause-err : goal.returns-in_err-cover-clause-err
returns-in_err-cover-clause-err c =
    let room = c.self.invariant.room in
    let same = c.cover.ensures.count in
    let small = room.small in
    on_err _ _ ((grown_pair _ _ _ _ c.self.invariant
    (record { atoms = c.self.inside.atoms.slots; mems = c.self.inside.mems.slots; atom_lists = c.cover.new.lists; mem_lists = c.self.inside.mem_lists })
    refl refl c.cover.ensures.same refl (omega (arith, same)) (omega (arith, same, small)) c.cover.ensures.grows (omega arith) room.mem_small (omega arith)).1
    ∙ ap (λ (z : Kept). heap_of z) c.self.view_is)

pub invariant_of-self-in_err-a : goal.invariant_of-self-in_err-a
invariant_of-self-in_err-a c =
    let room = c.self.invariant.room in
    let same = c.cover.ensures.count in
    let small = room.small in
    (grown_pair _ _ _ _ c.self.invariant
    (record { atoms = c.insert_atom.new.atoms.slots; mems = c.self.inside.mems.slots; atom_lists = c.cover.new.lists; mem_lists = c.self.inside.mem_lists })
    c.in_err-a.ensures.err refl c.cover.ensures.same refl (omega (arith, same)) (omega (arith, same, small)) c.cover.ensures.grows (omega arith) room.mem_small (omega arith)).0

pub returns-in_err-a-clause-err : goal.returns-in_err-a-clause-err
returns-in_err-a-clause-err c =
    let room = c.self.invariant.room in
    let same = c.cover.ensures.count in
    let small = room.small in
    on_err _ _ ((grown_pair _ _ _ _ c.self.invariant
    (record { atoms = c.insert_atom.new.atoms.slots; mems = c.self.inside.mems.slots; atom_lists = c.cover.new.lists; mem_lists = c.self.inside.mem_lists })
    c.in_err-a.ensures.err refl c.cover.ensures.same refl (omega (arith, same)) (omega (arith, same, small)) c.cover.ensures.grows (omega arith) room.mem_small (omega arith)).1
    ∙ ap (λ (z : Kept). heap_of z) c.self.view_is)

pub push_last-requires-clause-list : goal.push_last-requires-clause-list
push_last-requires-clause-list c = let w = line_there _ _ _ _ c.self.invariant 0 (omega arith) in let same = c.cover.ensures.count in omega (arith, w, same)

pub push_last-requires-clause-free : goal.push_last-requires-clause-free
push_last-requires-clause-free c l i =
    fresh_free _ _ _ _ c.self.invariant c.in_ok-a.a c.in_ok-a.ensures.fresh l (subst (λ (f : ℕ → List ℕ). In c.in_ok-a.a (f l)) c.cover.ensures.same i)

pub invariant_of-self-2 : goal.invariant_of-self-2
invariant_of-self-2 c =
    let key = c.in_ok-a.ensures.key in
    let value = c.vacant_key.ensures.value in
    let ok = c.in_ok-cover.ensures.ok in
    let size = c.push_last.ensures.size in
    let grows = c.cover.ensures.grows in
    let low = c.if-self-ge-BOUND.false in
    (make_pair _ _ _ _ c.self.invariant
    (record { atoms = c.insert_atom.new.atoms.slots; mems = c.self.inside.mems.slots; atom_lists = c.push_last.new.self; mem_lists = c.self.inside.mem_lists })
    c.in_ok-a.a c.args.f c.in_ok-a.ensures.fresh (omega (arith, low)) (omega (arith, key, value, ok, size))
    (c.in_ok-a.ensures.ok ∙ ap (λ (x : HeapAtom). alter (atoms_in_cells c.self.inside.atoms.slots) c.in_ok-a.a (λ _. Some x)) c.in_ok-cell.ensures) refl
    (c.push_last.ensures.lists ∙ ap (λ (f : ℕ → List ℕ). alter f 0 (λ xs. xs ++ c.in_ok-a.a ∷ [])) c.cover.ensures.same)
    (c.push_last.ensures.count ∙ c.cover.ensures.count) (omega (arith, grows, size)) refl).0

pub returns-clause-ok : goal.returns-clause-ok
returns-clause-ok c =
    let key = c.in_ok-a.ensures.key in
    let value = c.vacant_key.ensures.value in
    let ok = c.in_ok-cover.ensures.ok in
    let size = c.push_last.ensures.size in
    let grows = c.cover.ensures.grows in
    let low = c.if-self-ge-BOUND.false in
    (make_pair _ _ _ _ c.self.invariant
    (record { atoms = c.insert_atom.new.atoms.slots; mems = c.self.inside.mems.slots; atom_lists = c.push_last.new.self; mem_lists = c.self.inside.mem_lists })
    c.in_ok-a.a c.args.f c.in_ok-a.ensures.fresh (omega (arith, low)) (omega (arith, key, value, ok, size))
    (c.in_ok-a.ensures.ok ∙ ap (λ (x : HeapAtom). alter (atoms_in_cells c.self.inside.atoms.slots) c.in_ok-a.a (λ _. Some x)) c.in_ok-cell.ensures) refl
    (c.push_last.ensures.lists ∙ ap (λ (f : ℕ → List ℕ). alter f 0 (λ xs. xs ++ c.in_ok-a.a ∷ [])) c.cover.ensures.same)
    (c.push_last.ensures.count ∙ c.cover.ensures.count) (omega (arith, grows, size)) refl).1
    ∙ ap (λ (z : Kept). made_atom (heap_of z) c.in_ok-a.a c.args.f) c.self.view_is
