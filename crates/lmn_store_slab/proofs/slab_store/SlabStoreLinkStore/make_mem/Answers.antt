use Rattle.std.proofs.Common.{◌∙◌, ◌∷◌, [], ◌++◌, ℕ, List, Some, refl, ap, subst, arith}
use Rattle.lmn_store_heap.specs.Heap.{HeapMem, alter, waiting, made_mem}
use Rattle.lmn_store_counts.specs.RuleLists.{RuleList}
use Rattle.lmn_store_slab.specs.Cells.{mems_in_cells}
use Rattle.lmn_store_slab.specs.Kept.{Kept, heap_of}
use Rattle.lmn_store_slab.proofs.HoldsLemmas.{line_there, mem_line_there, fresh_mem_free, grown_pair, make_mem_pair}
use Rattle.lmn_store_slab.proofs.slab_store.SlabStoreLinkStore.make_mem.Goals as goal
use Rattle.lmn_base.proofs.Lists.{on_err}
use Rattle.lmn_base.specs.Lists.{In}

pub returns-in_err-cover-clause-err : goal.returns-in_err-cover-clause-err
returns-in_err-cover-clause-err c =
    let room = c.self.invariant.room in
    let s = room.small in
    let t = room.mem_small in
    let a1 = c.cover.ensures.count in
    let a2 = c.cover.ensures.grows in
    on_err _ _ ((grown_pair _ _ _ _ c.self.invariant
    (record { atoms = c.self.inside.atoms.slots; mems = c.self.inside.mems.slots; atom_lists = c.self.inside.atom_lists; mem_lists = c.cover.new.lists })
    refl refl refl c.cover.ensures.same (omega (arith, s, t, a1, a2)) (omega (arith, s, t, a1, a2)) (omega (arith, s, t, a1, a2)) (omega (arith, s, t, a1, a2)) (omega (arith, s, t, a1, a2)) (omega (arith, s, t, a1, a2))).1
    ∙ ap (λ (z : Kept). heap_of z) c.self.view_is)

pub cover_list-requires : goal.cover_list-requires
cover_list-requires c = let w = line_there _ _ _ _ c.self.invariant 2 (omega arith) in record { base = omega (arith, w) }

pub returns-in_err-cover_list-clause-err : goal.returns-in_err-cover_list-clause-err
returns-in_err-cover_list-clause-err c =
    let room = c.self.invariant.room in
    let s = room.small in
    let t = room.mem_small in
    let a1 = c.cover.ensures.count in
    let a2 = c.cover.ensures.grows in
    let b1 = c.cover_list.ensures.size in
    let b2 = c.cover_list.ensures.grows in
    let b3 = c.cover_list.ensures.small s in
    on_err _ _ ((grown_pair _ _ _ _ c.self.invariant
    (record { atoms = c.self.inside.atoms.slots; mems = c.self.inside.mems.slots; atom_lists = c.cover_list.new.lists; mem_lists = c.cover.new.lists })
    refl refl c.cover_list.ensures.same c.cover.ensures.same (omega (arith, s, t, a1, a2, b1, b2, b3)) (omega (arith, s, t, a1, a2, b1, b2, b3)) (omega (arith, s, t, a1, a2, b1, b2, b3)) (omega (arith, s, t, a1, a2, b1, b2, b3)) (omega (arith, s, t, a1, a2, b1, b2, b3)) (omega (arith, s, t, a1, a2, b1, b2, b3))).1
    ∙ ap (λ (z : Kept). heap_of z) c.self.view_is)

pub cover_list-requires-2 : goal.cover_list-requires-2
cover_list-requires-2 c = let w = mem_line_there _ _ _ _ c.self.invariant 2 (omega arith) in let same = c.cover.ensures.count in record { base = omega (arith, w, same) }

pub returns-in_err-cover_list-2-clause-err : goal.returns-in_err-cover_list-2-clause-err
returns-in_err-cover_list-2-clause-err c =
    let room = c.self.invariant.room in
    let s = room.small in
    let t = room.mem_small in
    let a1 = c.cover.ensures.count in
    let a2 = c.cover.ensures.grows in
    let b1 = c.cover_list.ensures.size in
    let b2 = c.cover_list.ensures.grows in
    let b3 = c.cover_list.ensures.small s in
    let d1 = c.cover_list-2.ensures.size in
    let d2 = c.cover_list-2.ensures.grows in
    let d3 = c.cover_list-2.ensures.small (omega (arith, a1, t)) in
    on_err _ _ ((grown_pair _ _ _ _ c.self.invariant
    (record { atoms = c.self.inside.atoms.slots; mems = c.self.inside.mems.slots; atom_lists = c.cover_list.new.lists; mem_lists = c.cover_list-2.new.lists })
    refl refl c.cover_list.ensures.same (c.cover_list-2.ensures.same ∙ c.cover.ensures.same) (omega (arith, s, t, a1, a2, b1, b2, b3, d1, d2, d3)) (omega (arith, s, t, a1, a2, b1, b2, b3, d1, d2, d3)) (omega (arith, s, t, a1, a2, b1, b2, b3, d1, d2, d3)) (omega (arith, s, t, a1, a2, b1, b2, b3, d1, d2, d3)) (omega (arith, s, t, a1, a2, b1, b2, b3, d1, d2, d3)) (omega (arith, s, t, a1, a2, b1, b2, b3, d1, d2, d3))).1
    ∙ ap (λ (z : Kept). heap_of z) c.self.view_is)

pub invariant_of-self-in_err-m : goal.invariant_of-self-in_err-m
invariant_of-self-in_err-m c =
    let room = c.self.invariant.room in
    let s = room.small in
    let t = room.mem_small in
    let a1 = c.cover.ensures.count in
    let a2 = c.cover.ensures.grows in
    let b1 = c.cover_list.ensures.size in
    let b2 = c.cover_list.ensures.grows in
    let b3 = c.cover_list.ensures.small s in
    let d1 = c.cover_list-2.ensures.size in
    let d2 = c.cover_list-2.ensures.grows in
    let d3 = c.cover_list-2.ensures.small (omega (arith, a1, t)) in
    (grown_pair _ _ _ _ c.self.invariant
    (record { atoms = c.self.inside.atoms.slots; mems = c.insert_mem.new.mems.slots; atom_lists = c.cover_list.new.lists; mem_lists = c.cover_list-2.new.lists })
    refl c.in_err-m.ensures.err c.cover_list.ensures.same (c.cover_list-2.ensures.same ∙ c.cover.ensures.same) (omega (arith, s, t, a1, a2, b1, b2, b3, d1, d2, d3)) (omega (arith, s, t, a1, a2, b1, b2, b3, d1, d2, d3)) (omega (arith, s, t, a1, a2, b1, b2, b3, d1, d2, d3)) (omega (arith, s, t, a1, a2, b1, b2, b3, d1, d2, d3)) (omega (arith, s, t, a1, a2, b1, b2, b3, d1, d2, d3)) (omega (arith, s, t, a1, a2, b1, b2, b3, d1, d2, d3))).0

pub returns-in_err-m-clause-err : goal.returns-in_err-m-clause-err
returns-in_err-m-clause-err c =
    let room = c.self.invariant.room in
    let s = room.small in
    let t = room.mem_small in
    let a1 = c.cover.ensures.count in
    let a2 = c.cover.ensures.grows in
    let b1 = c.cover_list.ensures.size in
    let b2 = c.cover_list.ensures.grows in
    let b3 = c.cover_list.ensures.small s in
    let d1 = c.cover_list-2.ensures.size in
    let d2 = c.cover_list-2.ensures.grows in
    let d3 = c.cover_list-2.ensures.small (omega (arith, a1, t)) in
    on_err _ _ ((grown_pair _ _ _ _ c.self.invariant
    (record { atoms = c.self.inside.atoms.slots; mems = c.insert_mem.new.mems.slots; atom_lists = c.cover_list.new.lists; mem_lists = c.cover_list-2.new.lists })
    refl c.in_err-m.ensures.err c.cover_list.ensures.same (c.cover_list-2.ensures.same ∙ c.cover.ensures.same) (omega (arith, s, t, a1, a2, b1, b2, b3, d1, d2, d3)) (omega (arith, s, t, a1, a2, b1, b2, b3, d1, d2, d3)) (omega (arith, s, t, a1, a2, b1, b2, b3, d1, d2, d3)) (omega (arith, s, t, a1, a2, b1, b2, b3, d1, d2, d3)) (omega (arith, s, t, a1, a2, b1, b2, b3, d1, d2, d3)) (omega (arith, s, t, a1, a2, b1, b2, b3, d1, d2, d3))).1
    ∙ ap (λ (z : Kept). heap_of z) c.self.view_is)

pub push_last-requires-clause-free : goal.push_last-requires-clause-free
push_last-requires-clause-free c l i =
    fresh_mem_free _ _ _ _ c.self.invariant c.in_ok-m.m c.in_ok-m.ensures.fresh l (subst (λ (f : ℕ → List ℕ). In c.in_ok-m.m (f l)) (c.cover_list-2.ensures.same ∙ c.cover.ensures.same) i)

-- a new membrane with these rules
abbrev new_by : RuleList → HeapMem
new_by r = record { atoms = []; mems = []; rules = r.numbers; spare = r.spare; mark = 0; place = waiting }

pub invariant_of-self-2 : goal.invariant_of-self-2
invariant_of-self-2 c =
    let room = c.self.invariant.room in
    let s = room.small in
    let t = room.mem_small in
    let a1 = c.cover.ensures.count in
    let a2 = c.cover.ensures.grows in
    let b1 = c.cover_list.ensures.size in
    let b2 = c.cover_list.ensures.grows in
    let b3 = c.cover_list.ensures.small s in
    let d1 = c.cover_list-2.ensures.size in
    let d2 = c.cover_list-2.ensures.grows in
    let d3 = c.cover_list-2.ensures.small (omega (arith, a1, t)) in
    let key = c.in_ok-m.ensures.key in
    let value = c.vacant_key-key.ensures.value in
    let ok = c.in_ok-cover.ensures.ok in
    let ok1 = c.in_ok-cover_list.ensures.ok in
    let ok2 = c.in_ok-cover_list-2.ensures.ok in
    let p1 = c.push_last.ensures.count in
    let p2 = c.push_last.ensures.size in
    let low = c.if-self-ge-BOUND.false in
    (make_mem_pair _ _ _ _ c.self.invariant
    (record { atoms = c.self.inside.atoms.slots; mems = c.insert_mem.new.mems.slots; atom_lists = c.cover_list.new.lists; mem_lists = c.push_last.new.self })
    c.in_ok-m.m c.in_ok-m.ensures.fresh (omega (arith, low)) (omega (arith, s, t, a1, a2, b1, b2, b3, d1, d2, d3, key, value, ok, ok1, ok2, p1, p2)) (omega (arith, s, t, a1, a2, b1, b2, b3, d1, d2, d3, key, value, ok, ok1, ok2, p1, p2)) (omega (arith, s, t, a1, a2, b1, b2, b3, d1, d2, d3, key, value, ok, ok1, ok2, p1, p2)) (omega (arith, s, t, a1, a2, b1, b2, b3, d1, d2, d3, key, value, ok, ok1, ok2, p1, p2)) (omega (arith, s, t, a1, a2, b1, b2, b3, d1, d2, d3, key, value, ok, ok1, ok2, p1, p2)) refl
    (c.in_ok-m.ensures.ok ∙ ap (λ (r : RuleList). alter (mems_in_cells c.self.inside.mems.slots) c.in_ok-m.m (λ _. Some (new_by r))) c.new.ensures)
    c.cover_list.ensures.same (omega (arith, s, t, a1, a2, b1, b2, b3, d1, d2, d3, key, value, ok, ok1, ok2, p1, p2)) (omega (arith, s, t, a1, a2, b1, b2, b3, d1, d2, d3, key, value, ok, ok1, ok2, p1, p2))
    (c.push_last.ensures.lists ∙ ap (λ (f : ℕ → List ℕ). alter f 0 (λ xs. xs ++ c.in_ok-m.m ∷ [])) (c.cover_list-2.ensures.same ∙ c.cover.ensures.same)) (omega (arith, s, t, a1, a2, b1, b2, b3, d1, d2, d3, key, value, ok, ok1, ok2, p1, p2)) (omega (arith, s, t, a1, a2, b1, b2, b3, d1, d2, d3, key, value, ok, ok1, ok2, p1, p2))).0

pub returns-clause-ok : goal.returns-clause-ok
returns-clause-ok c =
    let room = c.self.invariant.room in
    let s = room.small in
    let t = room.mem_small in
    let a1 = c.cover.ensures.count in
    let a2 = c.cover.ensures.grows in
    let b1 = c.cover_list.ensures.size in
    let b2 = c.cover_list.ensures.grows in
    let b3 = c.cover_list.ensures.small s in
    let d1 = c.cover_list-2.ensures.size in
    let d2 = c.cover_list-2.ensures.grows in
    let d3 = c.cover_list-2.ensures.small (omega (arith, a1, t)) in
    let key = c.in_ok-m.ensures.key in
    let value = c.vacant_key-key.ensures.value in
    let ok = c.in_ok-cover.ensures.ok in
    let ok1 = c.in_ok-cover_list.ensures.ok in
    let ok2 = c.in_ok-cover_list-2.ensures.ok in
    let p1 = c.push_last.ensures.count in
    let p2 = c.push_last.ensures.size in
    let low = c.if-self-ge-BOUND.false in
    (make_mem_pair _ _ _ _ c.self.invariant
    (record { atoms = c.self.inside.atoms.slots; mems = c.insert_mem.new.mems.slots; atom_lists = c.cover_list.new.lists; mem_lists = c.push_last.new.self })
    c.in_ok-m.m c.in_ok-m.ensures.fresh (omega (arith, low)) (omega (arith, s, t, a1, a2, b1, b2, b3, d1, d2, d3, key, value, ok, ok1, ok2, p1, p2)) (omega (arith, s, t, a1, a2, b1, b2, b3, d1, d2, d3, key, value, ok, ok1, ok2, p1, p2)) (omega (arith, s, t, a1, a2, b1, b2, b3, d1, d2, d3, key, value, ok, ok1, ok2, p1, p2)) (omega (arith, s, t, a1, a2, b1, b2, b3, d1, d2, d3, key, value, ok, ok1, ok2, p1, p2)) (omega (arith, s, t, a1, a2, b1, b2, b3, d1, d2, d3, key, value, ok, ok1, ok2, p1, p2)) refl
    (c.in_ok-m.ensures.ok ∙ ap (λ (r : RuleList). alter (mems_in_cells c.self.inside.mems.slots) c.in_ok-m.m (λ _. Some (new_by r))) c.new.ensures)
    c.cover_list.ensures.same (omega (arith, s, t, a1, a2, b1, b2, b3, d1, d2, d3, key, value, ok, ok1, ok2, p1, p2)) (omega (arith, s, t, a1, a2, b1, b2, b3, d1, d2, d3, key, value, ok, ok1, ok2, p1, p2))
    (c.push_last.ensures.lists ∙ ap (λ (f : ℕ → List ℕ). alter f 0 (λ xs. xs ++ c.in_ok-m.m ∷ [])) (c.cover_list-2.ensures.same ∙ c.cover.ensures.same)) (omega (arith, s, t, a1, a2, b1, b2, b3, d1, d2, d3, key, value, ok, ok1, ok2, p1, p2)) (omega (arith, s, t, a1, a2, b1, b2, b3, d1, d2, d3, key, value, ok, ok1, ok2, p1, p2))).1
    ∙ ap (λ (z : Kept). made_mem (heap_of z) c.in_ok-m.m) c.self.view_is
