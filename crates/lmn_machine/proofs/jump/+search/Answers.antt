use Rattle.std.proofs.Common.{rules, ◌≡◌, ◌<◌, ◌+◌, length, drop, Some, None, refl, arith, ap, sym, subst, ◌∙◌}
use Rattle.std.specs.Prelude.{true, false, IfSome, Err, slice_get}
use Rattle.std.specs.Option.{option_map}
use Rattle.std.proofs.lemmas.Option.{slice_get_within}
use Rattle.std.proofs.lemmas.List.{length_push}
use Rattle.lmn_base.proofs.Lists.{drop_get}
use Rattle.lmn_store_heap.proofs.Heights.{has_parent}
use Rattle.lmn_store_heap.specs.Lists.{from}
use Rattle.lmn_store_heap.specs.Functors.{with_functor}
use Rattle.lmn_store_heap.specs.Heap.{Heap, functor_of, home_of, parent_of, atoms_in, mems_in, Unmarked}
use Rattle.lmn_store_heap.specs.Sound.{Valid}
use Rattle.lmn_instr_code.specs.declared.instr.Instr.TheVariants.{FindAtom, AnyMem}
use Rattle.lmn_machine.specs.Searching.{AreHeldWhole, HeadInOrder, Searched, Stepped}
use Rattle.lmn_machine.specs.Jumping.{Ended, HangsBy, Refuted, Within, on_atom, on_membrane, with_atom, with_membrane}
use Rattle.lmn_machine.proofs.Calling.{read_at, drop_none, order_first, if_both, if_same, none_is, one_more, one_membrane_more, taken_back, next_same, next_mem_same, atom_ahead, membrane_ahead}
use Rattle.lmn_machine.proofs.Choosing.{atom_there, extends_atom, extends_membrane, held_atom, held_membrane, atoms_found, membranes_found}
use Rattle.lmn_machine.proofs.Fitting.{smaller}
use Rattle.lmn_machine.proofs.Jumps.{within_itself}
use Rattle.lmn_machine.proofs.Stepping.{Passed, extends_itself, extends_on, passed_one, passed_all}
use Rattle.lmn_machine.proofs.Listing.{held_forgetting, ended_listing, listing}
use Rattle.lmn_machine.proofs.Telling.{atoms_chosen, membranes_chosen}
use Rattle.lmn_machine.proofs.Trying.{passed_none, PassedOn, passed_nothing, passed_one_on, ended_failed, ended_passed, jump_atom, alone_atom, AtomsLeftOn, atoms_left, atoms_first_on, atoms_next_on, atoms_none_on, jump_membrane, alone_membrane, MembranesLeftOn, membranes_left, membranes_first_on, membranes_next_on, membranes_none_on, OnlyOneOn, only_home_on, only_left_on, only_fails_on, outside}
use Rattle.lmn_machine.proofs.jump.+search.Goals as goal

pub search-returns-in-Fails-clause-ended : goal.search-returns-in-Fails-clause-ended
search-returns-in-Fails-clause-ended g t c =
    let ahead = drop_get c.loop-i.i c.args.code.now c.at-instr.result.now c.at-instr.ensures in
    ended_failed g.S.LinkStore.atom_id g.S.LinkStore.mem_id (g.S.LinkStore.heap c.args.store.now) c.args.reasons.now c.args.set.now c.loop-i.set c.step.new.set c.read_by.result (drop c.args.at c.args.code.now) (drop (c.loop-i.i + 1) c.args.code.now) c.at-instr.result.now c.read_by.ensures
    (subst (λ left. Passed g.S.LinkStore.atom_id g.S.LinkStore.mem_id (g.S.LinkStore.heap c.args.store.now) c.args.set.now c.loop-i.set (drop c.args.at c.args.code.now) left) ahead c.loop-i.invariant.passed)
    (subst (λ left. PassedOn g.S.LinkStore.atom_id g.S.LinkStore.mem_id (g.S.LinkStore.heap c.args.store.now) c.args.reasons.now c.args.set.now c.loop-i.set (drop c.args.at c.args.code.now) left) ahead c.loop-i.invariant.on)
    (subst (λ h. Stepped g.S.LinkStore.atom_id g.S.LinkStore.mem_id h c.loop-i.set c.step.new.set false c.at-instr.result.now) c.loop-i.invariant.same c.in-Fails.ensures.stepped)

pub search-returns-in-ChoosesAtom-clause-ended : goal.search-returns-in-ChoosesAtom-clause-ended
search-returns-in-ChoosesAtom-clause-ended g t c =
    ended_passed g.S.LinkStore.atom_id g.S.LinkStore.mem_id (g.S.LinkStore.heap c.args.store.now) c.args.reasons.now c.args.set.now c.loop-i.set c.choose_atom.new.set (drop c.args.at c.args.code.now) (drop c.loop-i.i c.args.code.now) c.choose_atom.result c.loop-i.invariant.passed c.loop-i.invariant.on
    (subst (λ k. Ended g.S.LinkStore.atom_id g.S.LinkStore.mem_id (g.S.LinkStore.heap c.args.store.now) c.args.reasons.now k c.choose_atom.new.set c.choose_atom.result (drop c.loop-i.i c.args.code.now)) c.in-ChoosesAtom.ensures.stepped.0
    (ended_listing g.S.LinkStore.atom_id g.S.LinkStore.mem_id (g.S.LinkStore.heap c.args.store.now) c.step.new.set c.forget.new.self c.args.reasons.now c.choose_atom.new.set c.choose_atom.result (drop c.loop-i.i c.args.code.now)
    (subst (λ h. Ended g.S.LinkStore.atom_id g.S.LinkStore.mem_id h c.args.reasons.now (listing c.step.new.set c.forget.new.self) c.choose_atom.new.set c.choose_atom.result (drop c.loop-i.i c.args.code.now)) (c.in-ChoosesAtom.ensures.same ∙ c.loop-i.invariant.same) c.choose_atom.ensures.ended)))

pub search-returns-in-ChoosesMembrane-clause-ended : goal.search-returns-in-ChoosesMembrane-clause-ended
search-returns-in-ChoosesMembrane-clause-ended g t c =
    ended_passed g.S.LinkStore.atom_id g.S.LinkStore.mem_id (g.S.LinkStore.heap c.args.store.now) c.args.reasons.now c.args.set.now c.loop-i.set c.choose_membrane.new.set (drop c.args.at c.args.code.now) (drop c.loop-i.i c.args.code.now) c.choose_membrane.result c.loop-i.invariant.passed c.loop-i.invariant.on
    (subst (λ k. Ended g.S.LinkStore.atom_id g.S.LinkStore.mem_id (g.S.LinkStore.heap c.args.store.now) c.args.reasons.now k c.choose_membrane.new.set c.choose_membrane.result (drop c.loop-i.i c.args.code.now)) c.in-ChoosesMembrane.ensures.stepped.0
    (ended_listing g.S.LinkStore.atom_id g.S.LinkStore.mem_id (g.S.LinkStore.heap c.args.store.now) c.step.new.set c.forget-in-ChoosesMembrane.new.self c.args.reasons.now c.choose_membrane.new.set c.choose_membrane.result (drop c.loop-i.i c.args.code.now)
    (subst (λ h. Ended g.S.LinkStore.atom_id g.S.LinkStore.mem_id h c.args.reasons.now (listing c.step.new.set c.forget-in-ChoosesMembrane.new.self) c.choose_membrane.new.set c.choose_membrane.result (drop c.loop-i.i c.args.code.now)) (c.in-ChoosesMembrane.ensures.same ∙ c.loop-i.invariant.same) c.choose_membrane.ensures.ended)))

pub search-loop-i-preserved : goal.search-loop-i-preserved
search-loop-i-preserved g t c =
    let ahead = drop_get c.loop-i.i c.args.code.now c.at-instr.result.now c.at-instr.ensures in
    let passed = subst (λ left. Passed g.S.LinkStore.atom_id g.S.LinkStore.mem_id (g.S.LinkStore.heap c.args.store.now) c.args.set.now c.loop-i.set (drop c.args.at c.args.code.now) left) ahead c.loop-i.invariant.passed in
    let on = subst (λ left. PassedOn g.S.LinkStore.atom_id g.S.LinkStore.mem_id (g.S.LinkStore.heap c.args.store.now) c.args.reasons.now c.args.set.now c.loop-i.set (drop c.args.at c.args.code.now) left) ahead c.loop-i.invariant.on in
    let stepped = subst (λ h. Stepped g.S.LinkStore.atom_id g.S.LinkStore.mem_id h c.loop-i.set c.step.new.set true c.at-instr.result.now) c.loop-i.invariant.same c.in-Holds.ensures.stepped.1 in
    record {
      same = c.in-Holds.ensures.same ∙ c.loop-i.invariant.same;
      passed = passed_one g.S.LinkStore.atom_id g.S.LinkStore.mem_id (g.S.LinkStore.heap c.args.store.now) c.args.set.now c.loop-i.set c.step.new.set (drop c.args.at c.args.code.now) (drop (c.loop-i.i + 1) c.args.code.now) c.at-instr.result.now c.in-Holds.ensures.stepped.0 passed stepped;
      on = passed_one_on g.S.LinkStore.atom_id g.S.LinkStore.mem_id (g.S.LinkStore.heap c.args.store.now) c.args.reasons.now c.args.set.now c.loop-i.set c.step.new.set (drop c.args.at c.args.code.now) (drop (c.loop-i.i + 1) c.args.code.now) c.at-instr.result.now c.in-Holds.ensures.stepped.0 (c.requires.rest c.loop-i.i c.at-instr.result.now c.at-instr.ensures) passed on stepped;
    }

pub search-returns-clause-ended : goal.search-returns-clause-ended
search-returns-clause-ended g t c =
    let nothing = drop_none c.args.code.now c.loop-i.i (let past = c.loop-i-test.false in let end = c.len-i-end.ensures.len in omega (arith, past, end)) in
    passed_all g.S.LinkStore.atom_id g.S.LinkStore.mem_id (g.S.LinkStore.heap c.args.store.now) c.args.set.now c.loop-i.set (drop c.args.at c.args.code.now) (subst (λ left. Passed g.S.LinkStore.atom_id g.S.LinkStore.mem_id (g.S.LinkStore.heap c.args.store.now) c.args.set.now c.loop-i.set (drop c.args.at c.args.code.now) left) nothing c.loop-i.invariant.passed)

pub search-step-requires : goal.search-step-requires
search-step-requires g t c =
    let ahead = drop_get c.loop-i.i c.args.code.now c.at-instr.result.now c.at-instr.ensures in record {
      valid = subst (λ h. Valid h) (sym c.loop-i.invariant.same) c.requires.valid;
      unmarked = subst (λ h. Unmarked h) (sym c.loop-i.invariant.same) c.requires.unmarked;
      held = subst (λ h. AreHeldWhole g.S.LinkStore.atom_id g.S.LinkStore.mem_id h c.loop-i.set) (sym c.loop-i.invariant.same) c.loop-i.invariant.passed.held;
      order = order_first c.at-instr.result.now (length c.loop-i.set.atoms) (length c.loop-i.set.membranes) (length c.loop-i.set.parts) (length c.loop-i.set.integers) (drop (c.loop-i.i + 1) c.args.code.now)
          (subst (λ left. HeadInOrder (length c.loop-i.set.atoms) (length c.loop-i.set.membranes) (length c.loop-i.set.parts) (length c.loop-i.set.integers) left) ahead c.loop-i.invariant.passed.order);
    }

pub choose_atom-at-place-requires : goal.choose_atom-at-place-requires
choose_atom-at-place-requires g t c =
    let here = read_at c.args.code.now c.args.at c.args.instr.now (FindAtom c.in-FindAtom.atom c.in-FindAtom.membrane c.in-FindAtom.functor) c.requires.at c.in-FindAtom.is in
    let ahead = atom_ahead (length c.args.set.now.atoms) (length c.args.set.now.membranes) (length c.args.set.now.parts) (length c.args.set.now.integers) c.in-FindAtom.atom c.in-FindAtom.membrane c.in-FindAtom.functor (drop c.args.at c.args.code.now) (drop (c.args.at + 1) c.args.code.now) (drop_get c.args.at c.args.code.now (FindAtom c.in-FindAtom.atom c.in-FindAtom.membrane c.in-FindAtom.functor) here) c.requires.order in
    ahead.0.1

pub choose_membrane-at-place-requires : goal.choose_membrane-at-place-requires
choose_membrane-at-place-requires g t c =
    let here = read_at c.args.code.now c.args.at c.args.instr.now (AnyMem c.in-AnyMem.membrane c.in-AnyMem.inside) c.requires.at c.in-AnyMem.is in
    let ahead = membrane_ahead (length c.args.set.now.atoms) (length c.args.set.now.membranes) (length c.args.set.now.parts) (length c.args.set.now.integers) c.in-AnyMem.membrane c.in-AnyMem.inside (drop c.args.at c.args.code.now) (drop (c.args.at + 1) c.args.code.now) (drop_get c.args.at c.args.code.now (AnyMem c.in-AnyMem.membrane c.in-AnyMem.inside) here) c.requires.order in
    ahead.0.1

pub choose_atom-returns-in_default-clause-ended : goal.choose_atom-returns-in_default-clause-ended
choose_atom-returns-in_default-clause-ended g t c = absurd (atoms_chosen c.args.instr.now c.in_default.not-FindAtom c.requires.choice)

pub choose_membrane-returns-in_default-clause-ended : goal.choose_membrane-returns-in_default-clause-ended
choose_membrane-returns-in_default-clause-ended g t c = absurd (membranes_chosen c.args.instr.now c.in_default.not-AnyMem c.requires.choice)

pub search_atoms-loop-candidate-init : goal.search_atoms-loop-candidate-init
search_atoms-loop-candidate-init g t c = record {
  same = refl;
  set = refl;
  left = atoms_first_on g.S.LinkStore.atom_id g.S.LinkStore.mem_id (g.S.LinkStore.heap c.args.store.now) c.args.reasons.now c.of_membrane-named.result c.args.set.now (drop c.args.at c.args.code.now) (drop (c.args.at + 1) c.args.code.now) c.args.functor c.args.inside c.args.place c.first_with-candidate.result (drop_get c.args.at c.args.code.now (FindAtom (length c.args.set.now.atoms) c.args.inside c.args.functor) c.requires.at) c.requires.place
      (subst (λ e. Within e c.of_membrane-named.result) c.of_membrane-named.ensures (within_itself c.of_membrane-named.result)) c.first_with-candidate.ensures.list;
  there = if_both (λ a. functor_of (g.S.LinkStore.heap c.args.store.now) (g.S.LinkStore.atom_id a) ≡ Some c.args.functor) (λ a. home_of (g.S.LinkStore.heap c.args.store.now) (g.S.LinkStore.atom_id a) ≡ Some (g.S.LinkStore.mem_id c.args.place)) c.first_with-candidate.result c.first_with-candidate.ensures.functor c.first_with-candidate.ensures.home;
}

pub search_atoms-loop-candidate-smaller : goal.search_atoms-loop-candidate-smaller
search_atoms-loop-candidate-smaller g t c =
    let same : g.S.LinkStore.heap c.try_atom.new.store ≡ g.S.LinkStore.heap c.args.store.now = c.try_atom.ensures.same ∙ c.loop-candidate.invariant.same in
    let there = subst (λ o. IfSome o (λ a. (functor_of (g.S.LinkStore.heap c.args.store.now) (g.S.LinkStore.atom_id a) ≡ Some c.args.functor) × (home_of (g.S.LinkStore.heap c.args.store.now) (g.S.LinkStore.atom_id a) ≡ Some (g.S.LinkStore.mem_id c.args.place)))) c.in-Some.is c.loop-candidate.invariant.there in
    let next = next_same g.S.LinkStore.atom_id (g.S.LinkStore.heap c.args.store.now) (g.S.LinkStore.heap c.try_atom.new.store) c.in-Some.atom c.next_with-candidate.result same c.next_with-candidate.ensures.list c.next_with-candidate.ensures.functor c.next_with-candidate.ensures.home in
    subst (λ o. length (from (option_map g.S.LinkStore.atom_id c.next_with-candidate.result) (with_functor (g.S.LinkStore.heap c.args.store.now) c.args.functor (atoms_in (g.S.LinkStore.heap c.args.store.now) (g.S.LinkStore.mem_id c.args.place)))) < length (from (option_map g.S.LinkStore.atom_id o) (with_functor (g.S.LinkStore.heap c.args.store.now) c.args.functor (atoms_in (g.S.LinkStore.heap c.args.store.now) (g.S.LinkStore.mem_id c.args.place))))) (sym c.in-Some.is)
    (smaller (g.S.LinkStore.atom_id c.in-Some.atom) (option_map g.S.LinkStore.atom_id c.next_with-candidate.result) (option_map g.S.LinkStore.atom_id c.next_with-candidate.result) (with_functor (g.S.LinkStore.heap c.args.store.now) c.args.functor (atoms_in (g.S.LinkStore.heap c.args.store.now) (g.S.LinkStore.mem_id c.args.place))) (next.0 (g.S.LinkStore.mem_id c.args.place) c.args.functor there.1 there.0) (omega arith))

pub search_atoms-loop-candidate-preserved : goal.search_atoms-loop-candidate-preserved
search_atoms-loop-candidate-preserved g t c =
    let same : g.S.LinkStore.heap c.try_atom.new.store ≡ g.S.LinkStore.heap c.args.store.now = c.try_atom.ensures.same ∙ c.loop-candidate.invariant.same in
    let there = subst (λ o. IfSome o (λ a. (functor_of (g.S.LinkStore.heap c.args.store.now) (g.S.LinkStore.atom_id a) ≡ Some c.args.functor) × (home_of (g.S.LinkStore.heap c.args.store.now) (g.S.LinkStore.atom_id a) ≡ Some (g.S.LinkStore.mem_id c.args.place)))) c.in-Some.is c.loop-candidate.invariant.there in
    let next = next_same g.S.LinkStore.atom_id (g.S.LinkStore.heap c.args.store.now) (g.S.LinkStore.heap c.try_atom.new.store) c.in-Some.atom c.next_with-candidate.result same c.next_with-candidate.ensures.list c.next_with-candidate.ensures.functor c.next_with-candidate.ensures.home in
    let left = subst (λ o. AtomsLeftOn g.S.LinkStore.atom_id g.S.LinkStore.mem_id (g.S.LinkStore.heap c.args.store.now) c.args.reasons.now c.loop-candidate.named c.args.set.now (drop c.args.at c.args.code.now) c.args.functor c.args.place o) c.in-Some.is c.loop-candidate.invariant.left in
    let tried = subst (λ k. Refuted g.S.LinkStore.atom_id g.S.LinkStore.mem_id (g.S.LinkStore.heap c.args.store.now) c.args.reasons.now c.in-Err.failed (with_atom k c.in-Some.atom) (drop (c.args.at + 1) c.args.code.now)) c.loop-candidate.invariant.set
    (subst (λ h. Refuted g.S.LinkStore.atom_id g.S.LinkStore.mem_id h c.args.reasons.now c.in-Err.failed (with_atom c.loop-candidate.set c.in-Some.atom) (drop (c.args.at + 1) c.args.code.now)) c.loop-candidate.invariant.same c.in-Err.ensures.tried.1) in
    record {
      same = same;
      set = c.in-Err.ensures.tried.0 ∙ c.loop-candidate.invariant.set;
      left = atoms_next_on g.S.LinkStore.atom_id g.S.LinkStore.mem_id (g.S.LinkStore.heap c.args.store.now) c.args.reasons.now c.loop-candidate.named c.in-Err.failed c.with-named.result c.args.set.now (drop c.args.at c.args.code.now) (drop (c.args.at + 1) c.args.code.now) c.args.functor c.args.inside c.args.place c.in-Some.atom c.next_with-candidate.result (drop_get c.args.at c.args.code.now (FindAtom (length c.args.set.now.atoms) c.args.inside c.args.functor) c.requires.at)
          c.with-named.ensures.these c.with-named.ensures.those left tried (next.0 (g.S.LinkStore.mem_id c.args.place) c.args.functor there.1 there.0);
      there = if_both (λ a. functor_of (g.S.LinkStore.heap c.args.store.now) (g.S.LinkStore.atom_id a) ≡ Some c.args.functor) (λ a. home_of (g.S.LinkStore.heap c.args.store.now) (g.S.LinkStore.atom_id a) ≡ Some (g.S.LinkStore.mem_id c.args.place)) c.next_with-candidate.result
          (if_same (λ a. functor_of (g.S.LinkStore.heap c.args.store.now) (g.S.LinkStore.atom_id a)) c.in-Some.atom (Some c.args.functor) c.next_with-candidate.result next.1 there.0)
          (if_same (λ a. home_of (g.S.LinkStore.heap c.args.store.now) (g.S.LinkStore.atom_id a)) c.in-Some.atom (Some (g.S.LinkStore.mem_id c.args.place)) c.next_with-candidate.result next.2 there.1);
    }

pub search_atoms-returns-in-Ok-clause-ended : goal.search_atoms-returns-in-Ok-clause-ended
search_atoms-returns-in-Ok-clause-ended g t c =
    let there = subst (λ o. IfSome o (λ a. (functor_of (g.S.LinkStore.heap c.args.store.now) (g.S.LinkStore.atom_id a) ≡ Some c.args.functor) × (home_of (g.S.LinkStore.heap c.args.store.now) (g.S.LinkStore.atom_id a) ≡ Some (g.S.LinkStore.mem_id c.args.place)))) c.in-Some.is c.loop-candidate.invariant.there in
    let left = subst (λ o. AtomsLeftOn g.S.LinkStore.atom_id g.S.LinkStore.mem_id (g.S.LinkStore.heap c.args.store.now) c.args.reasons.now c.loop-candidate.named c.args.set.now (drop c.args.at c.args.code.now) c.args.functor c.args.place o) c.in-Some.is c.loop-candidate.invariant.left in
    atoms_found g.S.LinkStore.atom_id g.S.LinkStore.mem_id (g.S.LinkStore.heap c.args.store.now) c.args.set.now c.try_atom.new.set (drop c.args.at c.args.code.now) (drop (c.args.at + 1) c.args.code.now) c.args.functor c.args.inside c.args.place c.in-Some.atom (drop_get c.args.at c.args.code.now (FindAtom (length c.args.set.now.atoms) c.args.inside c.args.functor) c.requires.at) c.requires.place c.requires.valid.sound.listed there.1 there.0
    (atoms_left g.S.LinkStore.atom_id g.S.LinkStore.mem_id (g.S.LinkStore.heap c.args.store.now) c.args.reasons.now c.loop-candidate.named c.args.set.now (drop c.args.at c.args.code.now) c.args.functor c.args.place (Some c.in-Some.atom) left)
    (subst (λ k. Searched g.S.LinkStore.atom_id g.S.LinkStore.mem_id (g.S.LinkStore.heap c.args.store.now) (with_atom k c.in-Some.atom) c.try_atom.new.set true (drop (c.args.at + 1) c.args.code.now)) c.loop-candidate.invariant.set
    (subst (λ h. Searched g.S.LinkStore.atom_id g.S.LinkStore.mem_id h (with_atom c.loop-candidate.set c.in-Some.atom) c.try_atom.new.set true (drop (c.args.at + 1) c.args.code.now)) c.loop-candidate.invariant.same c.in-Ok.ensures.tried))

pub search_atoms-returns-then-not-is_within-clause-ended : goal.search_atoms-returns-then-not-is_within-clause-ended
search_atoms-returns-then-not-is_within-clause-ended g t c =
    let set = c.in-Err.ensures.tried.0 ∙ c.loop-candidate.invariant.set in
    let tried = subst (λ k. Refuted g.S.LinkStore.atom_id g.S.LinkStore.mem_id (g.S.LinkStore.heap c.args.store.now) c.args.reasons.now c.in-Err.failed (with_atom k c.in-Some.atom) (drop (c.args.at + 1) c.args.code.now)) c.loop-candidate.invariant.set
    (subst (λ h. Refuted g.S.LinkStore.atom_id g.S.LinkStore.mem_id h c.args.reasons.now c.in-Err.failed (with_atom c.loop-candidate.set c.in-Some.atom) (drop (c.args.at + 1) c.args.code.now)) c.loop-candidate.invariant.same c.in-Err.ensures.tried.1) in
    subst (λ k. Ended g.S.LinkStore.atom_id g.S.LinkStore.mem_id (g.S.LinkStore.heap c.args.store.now) c.args.reasons.now c.args.set.now k (Err c.in-Err.failed) (drop c.args.at c.args.code.now)) (sym set) (
      c.requires.held,
      extends_itself g.S.LinkStore.atom_id g.S.LinkStore.mem_id (g.S.LinkStore.heap c.args.store.now) c.args.set.now,
      jump_atom g.S.LinkStore.atom_id g.S.LinkStore.mem_id (g.S.LinkStore.heap c.args.store.now) c.args.reasons.now c.in-Err.failed c.args.set.now c.in-Some.atom (drop c.args.at c.args.code.now) (drop (c.args.at + 1) c.args.code.now) c.args.functor c.args.inside (drop_get c.args.at c.args.code.now (FindAtom (length c.args.set.now.atoms) c.args.inside c.args.functor) c.requires.at)
          (outside c.is_within.result (Within c.of_atom-own.result c.in-Err.failed) (Within (on_atom c.args.reasons.now (length c.args.set.now.atoms)) c.in-Err.failed) c.is_within.ensures c.if-not-is_within.true
          (λ w. subst (λ e. Within e c.in-Err.failed) (sym (c.of_atom-own.ensures ∙ ap (on_atom c.args.reasons.now) c.len.ensures)) w)) tried,
    )

pub search_atoms-returns-clause-ended : goal.search_atoms-returns-clause-ended
search_atoms-returns-clause-ended g t c =
    let left = subst (λ o. AtomsLeftOn g.S.LinkStore.atom_id g.S.LinkStore.mem_id (g.S.LinkStore.heap c.args.store.now) c.args.reasons.now c.loop-candidate.named c.args.set.now (drop c.args.at c.args.code.now) c.args.functor c.args.place o) (none_is c.loop-candidate.candidate c.in_default.not-Some) c.loop-candidate.invariant.left in
    subst (λ k. Ended g.S.LinkStore.atom_id g.S.LinkStore.mem_id (g.S.LinkStore.heap c.args.store.now) c.args.reasons.now c.args.set.now k (Err c.loop-candidate.named) (drop c.args.at c.args.code.now)) (sym c.loop-candidate.invariant.set)
    (atoms_none_on g.S.LinkStore.atom_id g.S.LinkStore.mem_id (g.S.LinkStore.heap c.args.store.now) c.args.reasons.now c.loop-candidate.named c.args.set.now (drop c.args.at c.args.code.now) c.args.functor c.args.place c.requires.held left)

pub try_atom-returns-then-not-may_stand-clause-tried : goal.try_atom-returns-then-not-may_stand-clause-tried
try_atom-returns-then-not-may_stand-clause-tried g t c = (
  refl,
  subst (λ e. Refuted g.S.LinkStore.atom_id g.S.LinkStore.mem_id (g.S.LinkStore.heap c.args.store.now) c.args.reasons.now e (with_atom c.args.set.now c.args.atom) (drop (c.args.at + 1) c.args.code.now)) (sym (c.of_atom.ensures ∙ ap (on_atom c.args.reasons.now) c.len-atoms.ensures))
      (alone_atom g.S.LinkStore.atom_id g.S.LinkStore.mem_id (g.S.LinkStore.heap c.args.store.now) c.args.reasons.now c.args.set.now c.args.atom (drop (c.args.at + 1) c.args.code.now) (λ n s e u. c.may_stand.ensures c.if-not-may_stand.true n s (ap s.images.atom c.len-atoms.ensures ∙ e) u)),
)

pub try_atom-push-requires : goal.try_atom-push-requires
try_atom-push-requires g t c =
    let ahead = atom_ahead (length c.args.set.now.atoms) (length c.args.set.now.membranes) (length c.args.set.now.parts) (length c.args.set.now.integers) (length c.args.set.now.atoms) c.requires.at.0 c.requires.at.1 (drop c.args.at c.args.code.now) (drop (c.args.at + 1) c.args.code.now) (drop_get c.args.at c.args.code.now (FindAtom (length c.args.set.now.atoms) c.requires.at.0 c.requires.at.1) c.requires.at.2) c.requires.order in
    ahead.0.2

pub try_atom-returns-in-Ok-clause-tried : goal.try_atom-returns-in-Ok-clause-tried
try_atom-returns-in-Ok-clause-tried g t c =
    subst (λ k. Searched g.S.LinkStore.atom_id g.S.LinkStore.mem_id (g.S.LinkStore.heap c.args.store.now) k c.search.new.set true (drop (c.args.at + 1) c.args.code.now)) (one_more c.args.set.now c.args.set.now c.args.atom c.push.new.self refl c.push.ensures) c.in-Ok.ensures.ended

pub try_atom-returns-in-Err-clause-tried : goal.try_atom-returns-in-Err-clause-tried
try_atom-returns-in-Err-clause-tried g t c =
    let more = one_more c.args.set.now c.args.set.now c.args.atom c.push.new.self refl c.push.ensures in
    let ended = subst (λ k. Ended g.S.LinkStore.atom_id g.S.LinkStore.mem_id (g.S.LinkStore.heap c.args.store.now) c.args.reasons.now k c.search.new.set (Err c.in-Err.failed) (drop (c.args.at + 1) c.args.code.now)) more c.in-Err.ensures.ended in (
      taken_back c.args.set.now c.search.new.set c.keep.new.self c.len-atoms.result c.len-membranes.result c.len-parts.result c.len-integers.result c.len-atoms.ensures c.len-membranes.ensures c.len-parts.ensures c.len-integers.ensures
          (extends_on g.S.LinkStore.atom_id g.S.LinkStore.mem_id (g.S.LinkStore.heap c.args.store.now) c.args.set.now (with_atom c.args.set.now c.args.atom) c.search.new.set (extends_atom g.S.LinkStore.atom_id g.S.LinkStore.mem_id (g.S.LinkStore.heap c.args.store.now) c.args.set.now c.args.atom) ended.1) c.requires.unlisted c.keep.ensures,
      ended.2,
    )

pub search_home-returns-in-None-clause-ended : goal.search_home-returns-in-None-clause-ended
search_home-returns-in-None-clause-ended g t c =
    membranes_none_on g.S.LinkStore.atom_id g.S.LinkStore.mem_id (g.S.LinkStore.heap c.args.store.now) c.args.reasons.now c.of_both-named.result c.args.set.now (drop c.args.at c.args.code.now) c.args.place c.requires.held
    (only_left_on g.S.LinkStore.atom_id g.S.LinkStore.mem_id (g.S.LinkStore.heap c.args.store.now) c.args.reasons.now c.of_both-named.result c.args.set.now (drop c.args.at c.args.code.now) c.args.place None
    (subst (λ o. OnlyOneOn g.S.LinkStore.atom_id g.S.LinkStore.mem_id (g.S.LinkStore.heap c.args.store.now) c.args.reasons.now c.of_both-named.result c.args.set.now (drop c.args.at c.args.code.now) o) c.in-None.is (only_home_on g.S.LinkStore.atom_id g.S.LinkStore.mem_id (g.S.LinkStore.heap c.args.store.now) c.args.reasons.now c.of_both-named.result c.args.set.now c.args.code.now (drop c.args.at c.args.code.now) (c.args.at + 1) c.args.inside c.args.place c.args.port c.at-from.result c.home_behind.result (drop_get c.args.at c.args.code.now (AnyMem (length c.args.set.now.membranes) c.args.inside) c.requires.at) c.requires.place c.of_both-named.ensures.membrane c.at-from.ensures c.of_both-named.ensures.atom c.requires.hangs c.home_behind.ensures.only)))

pub search_home-returns-in-Ok-clause-ended : goal.search_home-returns-in-Ok-clause-ended
search_home-returns-in-Ok-clause-ended g t c =
    let only = subst (λ o. OnlyOneOn g.S.LinkStore.atom_id g.S.LinkStore.mem_id (g.S.LinkStore.heap c.args.store.now) c.args.reasons.now c.of_both-named.result c.args.set.now (drop c.args.at c.args.code.now) o) c.in-Some.is (only_home_on g.S.LinkStore.atom_id g.S.LinkStore.mem_id (g.S.LinkStore.heap c.args.store.now) c.args.reasons.now c.of_both-named.result c.args.set.now c.args.code.now (drop c.args.at c.args.code.now) (c.args.at + 1) c.args.inside c.args.place c.args.port c.at-from.result c.home_behind.result (drop_get c.args.at c.args.code.now (AnyMem (length c.args.set.now.membranes) c.args.inside) c.requires.at) c.requires.place c.of_both-named.ensures.membrane c.at-from.ensures c.of_both-named.ensures.atom c.requires.hangs c.home_behind.ensures.only) in
    membranes_found g.S.LinkStore.atom_id g.S.LinkStore.mem_id (g.S.LinkStore.heap c.args.store.now) c.args.set.now c.try_membrane.new.set (drop c.args.at c.args.code.now) (drop (c.args.at + 1) c.args.code.now) c.args.inside c.args.place c.in-Some.membrane (drop_get c.args.at c.args.code.now (AnyMem (length c.args.set.now.membranes) c.args.inside) c.requires.at) c.requires.place c.requires.valid.sound.listed c.in-Some.ensures.parent
    (membranes_left g.S.LinkStore.atom_id g.S.LinkStore.mem_id (g.S.LinkStore.heap c.args.store.now) c.args.reasons.now c.of_both-named.result c.args.set.now (drop c.args.at c.args.code.now) c.args.place (Some c.in-Some.membrane)
    (only_left_on g.S.LinkStore.atom_id g.S.LinkStore.mem_id (g.S.LinkStore.heap c.args.store.now) c.args.reasons.now c.of_both-named.result c.args.set.now (drop c.args.at c.args.code.now) c.args.place (Some c.in-Some.membrane) only)) c.in-Ok.ensures.tried

pub search_home-returns-in-Err-clause-ended : goal.search_home-returns-in-Err-clause-ended
search_home-returns-in-Err-clause-ended g t c =
    let only = subst (λ o. OnlyOneOn g.S.LinkStore.atom_id g.S.LinkStore.mem_id (g.S.LinkStore.heap c.args.store.now) c.args.reasons.now c.of_both-named.result c.args.set.now (drop c.args.at c.args.code.now) o) c.in-Some.is (only_home_on g.S.LinkStore.atom_id g.S.LinkStore.mem_id (g.S.LinkStore.heap c.args.store.now) c.args.reasons.now c.of_both-named.result c.args.set.now c.args.code.now (drop c.args.at c.args.code.now) (c.args.at + 1) c.args.inside c.args.place c.args.port c.at-from.result c.home_behind.result (drop_get c.args.at c.args.code.now (AnyMem (length c.args.set.now.membranes) c.args.inside) c.requires.at) c.requires.place c.of_both-named.ensures.membrane c.at-from.ensures c.of_both-named.ensures.atom c.requires.hangs c.home_behind.ensures.only) in
    subst (λ k. Ended g.S.LinkStore.atom_id g.S.LinkStore.mem_id (g.S.LinkStore.heap c.args.store.now) c.args.reasons.now c.args.set.now k (Err c.with.result) (drop c.args.at c.args.code.now)) (sym c.in-Err.ensures.tried.0) (
      c.requires.held,
      extends_itself g.S.LinkStore.atom_id g.S.LinkStore.mem_id (g.S.LinkStore.heap c.args.store.now) c.args.set.now,
      only_fails_on g.S.LinkStore.atom_id g.S.LinkStore.mem_id (g.S.LinkStore.heap c.args.store.now) c.args.reasons.now c.of_both-named.result c.in-Err.failed c.with.result c.args.set.now (drop c.args.at c.args.code.now) (drop (c.args.at + 1) c.args.code.now) c.args.inside c.in-Some.membrane (drop_get c.args.at c.args.code.now (AnyMem (length c.args.set.now.membranes) c.args.inside) c.requires.at) c.with.ensures.these c.with.ensures.those only c.in-Err.ensures.tried.1,
    )

pub try_membranes-loop-candidate-init : goal.try_membranes-loop-candidate-init
try_membranes-loop-candidate-init g t c = record {
  same = refl;
  set = refl;
  left = membranes_first_on g.S.LinkStore.atom_id g.S.LinkStore.mem_id (g.S.LinkStore.heap c.args.store.now) c.args.reasons.now c.of_membrane-named.result c.args.set.now (drop c.args.at c.args.code.now) (drop (c.args.at + 1) c.args.code.now) c.args.inside c.args.place c.first_mem-candidate.result (drop_get c.args.at c.args.code.now (AnyMem (length c.args.set.now.membranes) c.args.inside) c.requires.at) c.requires.place
      (subst (λ e. Within e c.of_membrane-named.result) c.of_membrane-named.ensures (within_itself c.of_membrane-named.result)) c.first_mem-candidate.ensures.list;
  there = c.first_mem-candidate.ensures.parent;
}

pub try_membranes-loop-candidate-smaller : goal.try_membranes-loop-candidate-smaller
try_membranes-loop-candidate-smaller g t c =
    let same : g.S.LinkStore.heap c.try_membrane.new.store ≡ g.S.LinkStore.heap c.args.store.now = c.try_membrane.ensures.same ∙ c.loop-candidate.invariant.same in
    let there = subst (λ o. IfSome o (λ m. parent_of (g.S.LinkStore.heap c.args.store.now) (g.S.LinkStore.mem_id m) ≡ Some (g.S.LinkStore.mem_id c.args.place))) c.in-Some.is c.loop-candidate.invariant.there in
    let next = next_mem_same g.S.LinkStore.mem_id (g.S.LinkStore.heap c.args.store.now) (g.S.LinkStore.heap c.try_membrane.new.store) c.in-Some.membrane c.next_mem-candidate.result same c.next_mem-candidate.ensures.list c.next_mem-candidate.ensures.parent in
    subst (λ o. length (from (option_map g.S.LinkStore.mem_id c.next_mem-candidate.result) (mems_in (g.S.LinkStore.heap c.args.store.now) (g.S.LinkStore.mem_id c.args.place))) < length (from (option_map g.S.LinkStore.mem_id o) (mems_in (g.S.LinkStore.heap c.args.store.now) (g.S.LinkStore.mem_id c.args.place)))) (sym c.in-Some.is)
    (smaller (g.S.LinkStore.mem_id c.in-Some.membrane) (option_map g.S.LinkStore.mem_id c.next_mem-candidate.result) (option_map g.S.LinkStore.mem_id c.next_mem-candidate.result) (mems_in (g.S.LinkStore.heap c.args.store.now) (g.S.LinkStore.mem_id c.args.place)) (next.0 (g.S.LinkStore.mem_id c.args.place) there) (omega arith))

pub try_membranes-loop-candidate-preserved : goal.try_membranes-loop-candidate-preserved
try_membranes-loop-candidate-preserved g t c =
    let same : g.S.LinkStore.heap c.try_membrane.new.store ≡ g.S.LinkStore.heap c.args.store.now = c.try_membrane.ensures.same ∙ c.loop-candidate.invariant.same in
    let there = subst (λ o. IfSome o (λ m. parent_of (g.S.LinkStore.heap c.args.store.now) (g.S.LinkStore.mem_id m) ≡ Some (g.S.LinkStore.mem_id c.args.place))) c.in-Some.is c.loop-candidate.invariant.there in
    let next = next_mem_same g.S.LinkStore.mem_id (g.S.LinkStore.heap c.args.store.now) (g.S.LinkStore.heap c.try_membrane.new.store) c.in-Some.membrane c.next_mem-candidate.result same c.next_mem-candidate.ensures.list c.next_mem-candidate.ensures.parent in
    let left = subst (λ o. MembranesLeftOn g.S.LinkStore.atom_id g.S.LinkStore.mem_id (g.S.LinkStore.heap c.args.store.now) c.args.reasons.now c.loop-candidate.named c.args.set.now (drop c.args.at c.args.code.now) c.args.place o) c.in-Some.is c.loop-candidate.invariant.left in
    let tried = subst (λ k. Refuted g.S.LinkStore.atom_id g.S.LinkStore.mem_id (g.S.LinkStore.heap c.args.store.now) c.args.reasons.now c.in-Err.failed (with_membrane k c.in-Some.membrane) (drop (c.args.at + 1) c.args.code.now)) c.loop-candidate.invariant.set
    (subst (λ h. Refuted g.S.LinkStore.atom_id g.S.LinkStore.mem_id h c.args.reasons.now c.in-Err.failed (with_membrane c.loop-candidate.set c.in-Some.membrane) (drop (c.args.at + 1) c.args.code.now)) c.loop-candidate.invariant.same c.in-Err.ensures.tried.1) in
    record {
      same = same;
      set = c.in-Err.ensures.tried.0 ∙ c.loop-candidate.invariant.set;
      left = membranes_next_on g.S.LinkStore.atom_id g.S.LinkStore.mem_id (g.S.LinkStore.heap c.args.store.now) c.args.reasons.now c.loop-candidate.named c.in-Err.failed c.with-named.result c.args.set.now (drop c.args.at c.args.code.now) (drop (c.args.at + 1) c.args.code.now) c.args.inside c.args.place c.in-Some.membrane c.next_mem-candidate.result (drop_get c.args.at c.args.code.now (AnyMem (length c.args.set.now.membranes) c.args.inside) c.requires.at)
          c.with-named.ensures.these c.with-named.ensures.those left tried (next.0 (g.S.LinkStore.mem_id c.args.place) there);
      there = if_same (λ m. parent_of (g.S.LinkStore.heap c.args.store.now) (g.S.LinkStore.mem_id m)) c.in-Some.membrane (Some (g.S.LinkStore.mem_id c.args.place)) c.next_mem-candidate.result next.1 there;
    }

pub try_membranes-returns-in-Ok-clause-ended : goal.try_membranes-returns-in-Ok-clause-ended
try_membranes-returns-in-Ok-clause-ended g t c =
    let there = subst (λ o. IfSome o (λ m. parent_of (g.S.LinkStore.heap c.args.store.now) (g.S.LinkStore.mem_id m) ≡ Some (g.S.LinkStore.mem_id c.args.place))) c.in-Some.is c.loop-candidate.invariant.there in
    let left = subst (λ o. MembranesLeftOn g.S.LinkStore.atom_id g.S.LinkStore.mem_id (g.S.LinkStore.heap c.args.store.now) c.args.reasons.now c.loop-candidate.named c.args.set.now (drop c.args.at c.args.code.now) c.args.place o) c.in-Some.is c.loop-candidate.invariant.left in
    membranes_found g.S.LinkStore.atom_id g.S.LinkStore.mem_id (g.S.LinkStore.heap c.args.store.now) c.args.set.now c.try_membrane.new.set (drop c.args.at c.args.code.now) (drop (c.args.at + 1) c.args.code.now) c.args.inside c.args.place c.in-Some.membrane (drop_get c.args.at c.args.code.now (AnyMem (length c.args.set.now.membranes) c.args.inside) c.requires.at) c.requires.place c.requires.valid.sound.listed there
    (membranes_left g.S.LinkStore.atom_id g.S.LinkStore.mem_id (g.S.LinkStore.heap c.args.store.now) c.args.reasons.now c.loop-candidate.named c.args.set.now (drop c.args.at c.args.code.now) c.args.place (Some c.in-Some.membrane) left)
    (subst (λ k. Searched g.S.LinkStore.atom_id g.S.LinkStore.mem_id (g.S.LinkStore.heap c.args.store.now) (with_membrane k c.in-Some.membrane) c.try_membrane.new.set true (drop (c.args.at + 1) c.args.code.now)) c.loop-candidate.invariant.set
    (subst (λ h. Searched g.S.LinkStore.atom_id g.S.LinkStore.mem_id h (with_membrane c.loop-candidate.set c.in-Some.membrane) c.try_membrane.new.set true (drop (c.args.at + 1) c.args.code.now)) c.loop-candidate.invariant.same c.in-Ok.ensures.tried))

pub try_membranes-returns-then-not-is_within-clause-ended : goal.try_membranes-returns-then-not-is_within-clause-ended
try_membranes-returns-then-not-is_within-clause-ended g t c =
    let set = c.in-Err.ensures.tried.0 ∙ c.loop-candidate.invariant.set in
    let tried = subst (λ k. Refuted g.S.LinkStore.atom_id g.S.LinkStore.mem_id (g.S.LinkStore.heap c.args.store.now) c.args.reasons.now c.in-Err.failed (with_membrane k c.in-Some.membrane) (drop (c.args.at + 1) c.args.code.now)) c.loop-candidate.invariant.set
    (subst (λ h. Refuted g.S.LinkStore.atom_id g.S.LinkStore.mem_id h c.args.reasons.now c.in-Err.failed (with_membrane c.loop-candidate.set c.in-Some.membrane) (drop (c.args.at + 1) c.args.code.now)) c.loop-candidate.invariant.same c.in-Err.ensures.tried.1) in
    subst (λ k. Ended g.S.LinkStore.atom_id g.S.LinkStore.mem_id (g.S.LinkStore.heap c.args.store.now) c.args.reasons.now c.args.set.now k (Err c.in-Err.failed) (drop c.args.at c.args.code.now)) (sym set) (
      c.requires.held,
      extends_itself g.S.LinkStore.atom_id g.S.LinkStore.mem_id (g.S.LinkStore.heap c.args.store.now) c.args.set.now,
      jump_membrane g.S.LinkStore.atom_id g.S.LinkStore.mem_id (g.S.LinkStore.heap c.args.store.now) c.args.reasons.now c.in-Err.failed c.args.set.now c.in-Some.membrane (drop c.args.at c.args.code.now) (drop (c.args.at + 1) c.args.code.now) c.args.inside (drop_get c.args.at c.args.code.now (AnyMem (length c.args.set.now.membranes) c.args.inside) c.requires.at)
          (outside c.is_within.result (Within c.of_membrane-own.result c.in-Err.failed) (Within (on_membrane c.args.reasons.now (length c.args.set.now.membranes)) c.in-Err.failed) c.is_within.ensures c.if-not-is_within.true
          (λ w. subst (λ e. Within e c.in-Err.failed) (sym (c.of_membrane-own.ensures ∙ ap (on_membrane c.args.reasons.now) c.len.ensures)) w)) tried,
    )

pub try_membranes-returns-clause-ended : goal.try_membranes-returns-clause-ended
try_membranes-returns-clause-ended g t c =
    let left = subst (λ o. MembranesLeftOn g.S.LinkStore.atom_id g.S.LinkStore.mem_id (g.S.LinkStore.heap c.args.store.now) c.args.reasons.now c.loop-candidate.named c.args.set.now (drop c.args.at c.args.code.now) c.args.place o) (none_is c.loop-candidate.candidate c.in_default.not-Some) c.loop-candidate.invariant.left in
    subst (λ k. Ended g.S.LinkStore.atom_id g.S.LinkStore.mem_id (g.S.LinkStore.heap c.args.store.now) c.args.reasons.now c.args.set.now k (Err c.loop-candidate.named) (drop c.args.at c.args.code.now)) (sym c.loop-candidate.invariant.set)
    (membranes_none_on g.S.LinkStore.atom_id g.S.LinkStore.mem_id (g.S.LinkStore.heap c.args.store.now) c.args.reasons.now c.loop-candidate.named c.args.set.now (drop c.args.at c.args.code.now) c.args.place c.requires.held left)

pub try_membrane-returns-then-not-holds_enough-clause-tried : goal.try_membrane-returns-then-not-holds_enough-clause-tried
try_membrane-returns-then-not-holds_enough-clause-tried g t c = (
  refl,
  subst (λ e. Refuted g.S.LinkStore.atom_id g.S.LinkStore.mem_id (g.S.LinkStore.heap c.args.store.now) c.args.reasons.now e (with_membrane c.args.set.now c.args.membrane) (drop (c.args.at + 1) c.args.code.now)) (sym (c.of_membrane.ensures ∙ ap (on_membrane c.args.reasons.now) c.len-membranes.ensures))
      (alone_membrane g.S.LinkStore.atom_id g.S.LinkStore.mem_id (g.S.LinkStore.heap c.args.store.now) c.args.reasons.now c.args.set.now c.args.membrane (drop (c.args.at + 1) c.args.code.now) (λ n s e u. c.holds_enough.ensures c.if-not-holds_enough.true n s (ap s.images.membrane c.len-membranes.ensures ∙ e) u)),
)

pub try_membrane-push-requires : goal.try_membrane-push-requires
try_membrane-push-requires g t c =
    let ahead = membrane_ahead (length c.args.set.now.atoms) (length c.args.set.now.membranes) (length c.args.set.now.parts) (length c.args.set.now.integers) (length c.args.set.now.membranes) c.requires.at.0 (drop c.args.at c.args.code.now) (drop (c.args.at + 1) c.args.code.now) (drop_get c.args.at c.args.code.now (AnyMem (length c.args.set.now.membranes) c.requires.at.0) c.requires.at.2) c.requires.order in
    ahead.0.2

pub try_membrane-returns-in-Ok-clause-tried : goal.try_membrane-returns-in-Ok-clause-tried
try_membrane-returns-in-Ok-clause-tried g t c =
    subst (λ k. Searched g.S.LinkStore.atom_id g.S.LinkStore.mem_id (g.S.LinkStore.heap c.args.store.now) k c.search.new.set true (drop (c.args.at + 1) c.args.code.now)) (one_membrane_more c.args.set.now c.args.set.now c.args.membrane c.push.new.self refl c.push.ensures) c.in-Ok.ensures.ended

pub try_membrane-returns-in-Err-clause-tried : goal.try_membrane-returns-in-Err-clause-tried
try_membrane-returns-in-Err-clause-tried g t c =
    let more = one_membrane_more c.args.set.now c.args.set.now c.args.membrane c.push.new.self refl c.push.ensures in
    let ended = subst (λ k. Ended g.S.LinkStore.atom_id g.S.LinkStore.mem_id (g.S.LinkStore.heap c.args.store.now) c.args.reasons.now k c.search.new.set (Err c.in-Err.failed) (drop (c.args.at + 1) c.args.code.now)) more c.in-Err.ensures.ended in (
      taken_back c.args.set.now c.search.new.set c.keep.new.self c.len-atoms.result c.len-membranes.result c.len-parts.result c.len-integers.result c.len-atoms.ensures c.len-membranes.ensures c.len-parts.ensures c.len-integers.ensures
          (extends_on g.S.LinkStore.atom_id g.S.LinkStore.mem_id (g.S.LinkStore.heap c.args.store.now) c.args.set.now (with_membrane c.args.set.now c.args.membrane) c.search.new.set (extends_membrane g.S.LinkStore.atom_id g.S.LinkStore.mem_id (g.S.LinkStore.heap c.args.store.now) c.args.set.now c.args.membrane) ended.1) c.requires.unlisted c.keep.ensures,
      ended.2,
    )

pub search-choose_atom-requires : goal.search-choose_atom-requires
search-choose_atom-requires g t c κs within =
    (search rules, (search rules, (search rules, (search rules, (subst (λ h. Valid h) (sym (c.in-ChoosesAtom.ensures.same ∙ c.loop-i.invariant.same)) c.requires.valid, (subst (λ h. Unmarked h) (sym (c.in-ChoosesAtom.ensures.same ∙ c.loop-i.invariant.same)) c.requires.unmarked, (held_forgetting g.S.LinkStore.atom_id g.S.LinkStore.mem_id (g.S.LinkStore.heap c.step.new.store) c.step.new.set c.forget.new.self c.forget.ensures (subst (λ k. AreHeldWhole g.S.LinkStore.atom_id g.S.LinkStore.mem_id (g.S.LinkStore.heap c.step.new.store) k) (sym c.in-ChoosesAtom.ensures.stepped.0) (subst (λ h. AreHeldWhole g.S.LinkStore.atom_id g.S.LinkStore.mem_id h c.loop-i.set) (sym (c.in-ChoosesAtom.ensures.same ∙ c.loop-i.invariant.same)) c.loop-i.invariant.passed.held)), (c.at-instr.ensures, (c.in-ChoosesAtom.ensures.stepped.1, (subst (λ k. HeadInOrder (length k.atoms) (length k.membranes) (length k.parts) (length k.integers) (drop c.loop-i.i c.args.code.now)) (sym c.in-ChoosesAtom.ensures.stepped.0) c.loop-i.invariant.passed.order, (c.requires.rest, c.forget.ensures)))))))))))

pub search-choose_membrane-requires : goal.search-choose_membrane-requires
search-choose_membrane-requires g t c κs within =
    (search rules, (search rules, (search rules, (search rules, (subst (λ h. Valid h) (sym (c.in-ChoosesMembrane.ensures.same ∙ c.loop-i.invariant.same)) c.requires.valid, (subst (λ h. Unmarked h) (sym (c.in-ChoosesMembrane.ensures.same ∙ c.loop-i.invariant.same)) c.requires.unmarked, (held_forgetting g.S.LinkStore.atom_id g.S.LinkStore.mem_id (g.S.LinkStore.heap c.step.new.store) c.step.new.set c.forget-in-ChoosesMembrane.new.self c.forget-in-ChoosesMembrane.ensures (subst (λ k. AreHeldWhole g.S.LinkStore.atom_id g.S.LinkStore.mem_id (g.S.LinkStore.heap c.step.new.store) k) (sym c.in-ChoosesMembrane.ensures.stepped.0) (subst (λ h. AreHeldWhole g.S.LinkStore.atom_id g.S.LinkStore.mem_id h c.loop-i.set) (sym (c.in-ChoosesMembrane.ensures.same ∙ c.loop-i.invariant.same)) c.loop-i.invariant.passed.held)), (c.at-instr.ensures, (c.in-ChoosesMembrane.ensures.stepped.1, (subst (λ k. HeadInOrder (length k.atoms) (length k.membranes) (length k.parts) (length k.integers) (drop c.loop-i.i c.args.code.now)) (sym c.in-ChoosesMembrane.ensures.stepped.0) c.loop-i.invariant.passed.order, (c.requires.rest, c.forget-in-ChoosesMembrane.ensures)))))))))))

pub choose_atom-search_atoms-requires : goal.choose_atom-search_atoms-requires
choose_atom-search_atoms-requires g t c κs within =
    let here = read_at c.args.code.now c.args.at c.args.instr.now (FindAtom c.in-FindAtom.atom c.in-FindAtom.membrane c.in-FindAtom.functor) c.requires.at c.in-FindAtom.is in
    let ahead = atom_ahead (length c.args.set.now.atoms) (length c.args.set.now.membranes) (length c.args.set.now.parts) (length c.args.set.now.integers) c.in-FindAtom.atom c.in-FindAtom.membrane c.in-FindAtom.functor (drop c.args.at c.args.code.now) (drop (c.args.at + 1) c.args.code.now) (drop_get c.args.at c.args.code.now (FindAtom c.in-FindAtom.atom c.in-FindAtom.membrane c.in-FindAtom.functor) here) c.requires.order in
    (search rules, (search rules, (search rules, (search rules, (c.requires.valid, (c.requires.unmarked, (c.requires.held, (here ∙ ap (λ x. Some (FindAtom x c.in-FindAtom.membrane c.in-FindAtom.functor)) ahead.0.0, (c.at-place.ensures, (c.requires.order, (c.requires.rest, c.requires.unlisted)))))))))))

pub choose_membrane-search_home-requires : goal.choose_membrane-search_home-requires
choose_membrane-search_home-requires g t c κs within =
    let here = read_at c.args.code.now c.args.at c.args.instr.now (AnyMem c.in-AnyMem.membrane c.in-AnyMem.inside) c.requires.at c.in-AnyMem.is in
    let ahead = membrane_ahead (length c.args.set.now.atoms) (length c.args.set.now.membranes) (length c.args.set.now.parts) (length c.args.set.now.integers) c.in-AnyMem.membrane c.in-AnyMem.inside (drop c.args.at c.args.code.now) (drop (c.args.at + 1) c.args.code.now)
    (drop_get c.args.at c.args.code.now (AnyMem c.in-AnyMem.membrane c.in-AnyMem.inside) here) c.requires.order in
    let there = here ∙ ap (λ x. Some (AnyMem x c.in-AnyMem.inside)) ahead.0.0 in
    (search rules, (search rules, (search rules, (search rules, (c.requires.valid, (c.requires.unmarked, (c.requires.held, (there, (c.at-place.ensures, ((let l = c.in-Some.ensures.set in let n = c.len-atoms.ensures in omega (arith, l, n)), (subst (λ n. HangsBy c.args.code.now (c.args.at + 1) n c.in-Some.port) c.len-membranes.ensures c.in-Some.ensures.hangs, (c.requires.order, (c.requires.rest, c.requires.unlisted)))))))))))))

pub choose_membrane-try_membranes-requires : goal.choose_membrane-try_membranes-requires
choose_membrane-try_membranes-requires g t c κs within =
    let here = read_at c.args.code.now c.args.at c.args.instr.now (AnyMem c.in-AnyMem.membrane c.in-AnyMem.inside) c.requires.at c.in-AnyMem.is in
    let ahead = membrane_ahead (length c.args.set.now.atoms) (length c.args.set.now.membranes) (length c.args.set.now.parts) (length c.args.set.now.integers) c.in-AnyMem.membrane c.in-AnyMem.inside (drop c.args.at c.args.code.now) (drop (c.args.at + 1) c.args.code.now)
    (drop_get c.args.at c.args.code.now (AnyMem c.in-AnyMem.membrane c.in-AnyMem.inside) here) c.requires.order in
    let there = here ∙ ap (λ x. Some (AnyMem x c.in-AnyMem.inside)) ahead.0.0 in
    (search rules, (search rules, (search rules, (search rules, (c.requires.valid, (c.requires.unmarked, (c.requires.held, (there, (c.at-place.ensures, (c.requires.order, (c.requires.rest, c.requires.unlisted)))))))))))

pub choose_membrane-overflow_add-at : goal.choose_membrane-overflow_add-at
choose_membrane-overflow_add-at g t c =
    let here = read_at c.args.code.now c.args.at c.args.instr.now (AnyMem c.in-AnyMem.membrane c.in-AnyMem.inside) c.requires.at c.in-AnyMem.is in
    let below : c.args.at < length c.args.code.now = slice_get_within c.args.code.now c.args.at (AnyMem c.in-AnyMem.membrane c.in-AnyMem.inside) here in
    let len = c.len-code.ensures.len in
    let few = c.len-code.ensures.few in omega (arith, below, len, few)

pub search_atoms-try_atom-requires : goal.search_atoms-try_atom-requires
search_atoms-try_atom-requires g t c κs within =
    let there = subst (λ o. IfSome o (λ a. (functor_of (g.S.LinkStore.heap c.args.store.now) (g.S.LinkStore.atom_id a) ≡ Some c.args.functor) × (home_of (g.S.LinkStore.heap c.args.store.now) (g.S.LinkStore.atom_id a) ≡ Some (g.S.LinkStore.mem_id c.args.place)))) c.in-Some.is c.loop-candidate.invariant.there in
    (search rules, (search rules, (search rules, (search rules, (subst (λ h. Valid h) (sym c.loop-candidate.invariant.same) c.requires.valid, (subst (λ h. Unmarked h) (sym c.loop-candidate.invariant.same) c.requires.unmarked, (subst (λ k. AreHeldWhole g.S.LinkStore.atom_id g.S.LinkStore.mem_id (g.S.LinkStore.heap c.loop-candidate.store) k) (sym c.loop-candidate.invariant.set) (subst (λ h. AreHeldWhole g.S.LinkStore.atom_id g.S.LinkStore.mem_id h c.args.set.now) (sym c.loop-candidate.invariant.same) c.requires.held), ((c.args.inside, c.args.functor, subst (λ k. slice_get c.args.code.now c.args.at ≡ Some (FindAtom (length k.atoms) c.args.inside c.args.functor)) (sym c.loop-candidate.invariant.set) c.requires.at, subst (λ (h : Heap). functor_of h (g.S.LinkStore.atom_id c.in-Some.atom) ≡ Some c.args.functor) (sym c.loop-candidate.invariant.same) there.0), (subst (λ k. HeadInOrder (length k.atoms) (length k.membranes) (length k.parts) (length k.integers) (drop c.args.at c.args.code.now)) (sym c.loop-candidate.invariant.set) c.requires.order, (c.requires.rest, ap (λ k. k.listed) c.loop-candidate.invariant.set ∙ c.requires.unlisted))))))))))

pub try_membranes-try_membrane-requires : goal.try_membranes-try_membrane-requires
try_membranes-try_membrane-requires g t c κs within =
    let there = subst (λ o. IfSome o (λ m. parent_of (g.S.LinkStore.heap c.args.store.now) (g.S.LinkStore.mem_id m) ≡ Some (g.S.LinkStore.mem_id c.args.place))) c.in-Some.is c.loop-candidate.invariant.there in
    (search rules, (search rules, (search rules, (search rules, (subst (λ h. Valid h) (sym c.loop-candidate.invariant.same) c.requires.valid, (subst (λ h. Unmarked h) (sym c.loop-candidate.invariant.same) c.requires.unmarked, (subst (λ k. AreHeldWhole g.S.LinkStore.atom_id g.S.LinkStore.mem_id (g.S.LinkStore.heap c.loop-candidate.store) k) (sym c.loop-candidate.invariant.set) (subst (λ h. AreHeldWhole g.S.LinkStore.atom_id g.S.LinkStore.mem_id h c.args.set.now) (sym c.loop-candidate.invariant.same) c.requires.held), ((c.args.inside, g.S.LinkStore.mem_id c.args.place, subst (λ k. slice_get c.args.code.now c.args.at ≡ Some (AnyMem (length k.membranes) c.args.inside)) (sym c.loop-candidate.invariant.set) c.requires.at, subst (λ (h : Heap). parent_of h (g.S.LinkStore.mem_id c.in-Some.membrane) ≡ Some (g.S.LinkStore.mem_id c.args.place)) (sym c.loop-candidate.invariant.same) there), (subst (λ k. HeadInOrder (length k.atoms) (length k.membranes) (length k.parts) (length k.integers) (drop c.args.at c.args.code.now)) (sym c.loop-candidate.invariant.set) c.requires.order, (c.requires.rest, ap (λ k. k.listed) c.loop-candidate.invariant.set ∙ c.requires.unlisted))))))))))

pub search_home-try_membrane-requires : goal.search_home-try_membrane-requires
search_home-try_membrane-requires g t c κs within =
    (search rules, (search rules, (search rules, (search rules, (c.requires.valid, (c.requires.unmarked, (c.requires.held, ((c.args.inside, g.S.LinkStore.mem_id c.args.place, c.requires.at, c.in-Some.ensures.parent), (c.requires.order, (c.requires.rest, c.requires.unlisted))))))))))

pub try_atom-search-requires : goal.try_atom-search-requires
try_atom-search-requires g t c κs within =
    let more = one_more c.args.set.now c.args.set.now c.args.atom c.push.new.self refl c.push.ensures in
    let ahead = atom_ahead (length c.args.set.now.atoms) (length c.args.set.now.membranes) (length c.args.set.now.parts) (length c.args.set.now.integers) (length c.args.set.now.atoms) c.requires.at.0 c.requires.at.1 (drop c.args.at c.args.code.now) (drop (c.args.at + 1) c.args.code.now) (drop_get c.args.at c.args.code.now (FindAtom (length c.args.set.now.atoms) c.requires.at.0 c.requires.at.1) c.requires.at.2) c.requires.order in
    let below : c.args.at < length c.args.code.now = slice_get_within c.args.code.now c.args.at (FindAtom (length c.args.set.now.atoms) c.requires.at.0 c.requires.at.1) c.requires.at.2 in
    let held = subst (λ k. AreHeldWhole g.S.LinkStore.atom_id g.S.LinkStore.mem_id (g.S.LinkStore.heap c.args.store.now) k) (sym more) (held_atom g.S.LinkStore.atom_id g.S.LinkStore.mem_id (g.S.LinkStore.heap c.args.store.now) c.args.set.now c.args.atom c.requires.at.1 ahead.0.3 c.requires.held c.requires.at.3) in
    let next = subst (λ n. HeadInOrder n (length c.args.set.now.membranes) (length c.args.set.now.parts) (length c.args.set.now.integers) (drop (c.args.at + 1) c.args.code.now)) (sym (length_push c.args.set.now.atoms c.args.atom)) ahead.1 in
    (search rules, (search rules, (search rules, (search rules, (c.requires.valid, (c.requires.unmarked, (held, (omega arith, (subst (λ k. HeadInOrder (length k.atoms) (length k.membranes) (length k.parts) (length k.integers) (drop (c.args.at + 1) c.args.code.now)) (sym more) next, c.requires.rest)))))))))

pub try_membrane-search-requires : goal.try_membrane-search-requires
try_membrane-search-requires g t c κs within =
    let more = one_membrane_more c.args.set.now c.args.set.now c.args.membrane c.push.new.self refl c.push.ensures in
    let ahead = membrane_ahead (length c.args.set.now.atoms) (length c.args.set.now.membranes) (length c.args.set.now.parts) (length c.args.set.now.integers) (length c.args.set.now.membranes) c.requires.at.0 (drop c.args.at c.args.code.now) (drop (c.args.at + 1) c.args.code.now) (drop_get c.args.at c.args.code.now (AnyMem (length c.args.set.now.membranes) c.requires.at.0) c.requires.at.2) c.requires.order in
    let below : c.args.at < length c.args.code.now = slice_get_within c.args.code.now c.args.at (AnyMem (length c.args.set.now.membranes) c.requires.at.0) c.requires.at.2 in
    let held = subst (λ k. AreHeldWhole g.S.LinkStore.atom_id g.S.LinkStore.mem_id (g.S.LinkStore.heap c.args.store.now) k) (sym more) (held_membrane g.S.LinkStore.atom_id g.S.LinkStore.mem_id (g.S.LinkStore.heap c.args.store.now) c.args.set.now c.args.membrane c.requires.at.1 c.requires.held c.requires.at.3) in
    let next = subst (λ n. HeadInOrder (length c.args.set.now.atoms) n (length c.args.set.now.parts) (length c.args.set.now.integers) (drop (c.args.at + 1) c.args.code.now)) (sym (length_push c.args.set.now.membranes c.args.membrane)) ahead.1 in
    (search rules, (search rules, (search rules, (search rules, (c.requires.valid, (c.requires.unmarked, (held, (omega arith, (subst (λ k. HeadInOrder (length k.atoms) (length k.membranes) (length k.parts) (length k.integers) (drop (c.args.at + 1) c.args.code.now)) (sym more) next, c.requires.rest)))))))))

pub search-loop-i-init : goal.search-loop-i-init
search-loop-i-init g t c = record {
  same = refl;
  passed = passed_none g.S.LinkStore.atom_id g.S.LinkStore.mem_id (g.S.LinkStore.heap c.args.store.now) c.args.set.now (drop c.args.at c.args.code.now) c.requires.held c.requires.order;
  on = passed_nothing g.S.LinkStore.atom_id g.S.LinkStore.mem_id (g.S.LinkStore.heap c.args.store.now) c.args.reasons.now c.args.set.now (drop c.args.at c.args.code.now);
}

pub try_atom-may_stand-requires : goal.try_atom-may_stand-requires
try_atom-may_stand-requires g t c = atom_there ((g.S.LinkStore.heap c.args.store.now).atoms (g.S.LinkStore.atom_id c.args.atom)) c.requires.at.1 c.requires.at.3

pub try_membrane-holds_enough-requires-clause-there : goal.try_membrane-holds_enough-requires-clause-there
try_membrane-holds_enough-requires-clause-there g t c = has_parent ((g.S.LinkStore.heap c.args.store.now).mems (g.S.LinkStore.mem_id c.args.membrane)) c.requires.at.1 c.requires.at.3

pub try_atom-overflow_add-rest : goal.try_atom-overflow_add-rest
try_atom-overflow_add-rest g t c =
    let below : c.args.at < length c.args.code.now = slice_get_within c.args.code.now c.args.at (FindAtom (length c.args.set.now.atoms) c.requires.at.0 c.requires.at.1) c.requires.at.2 in
    let len = c.len-code.ensures.len in
    let few = c.len-code.ensures.few in omega (arith, below, len, few)

pub try_membrane-overflow_add-rest : goal.try_membrane-overflow_add-rest
try_membrane-overflow_add-rest g t c =
    let below : c.args.at < length c.args.code.now = slice_get_within c.args.code.now c.args.at (AnyMem (length c.args.set.now.membranes) c.requires.at.0) c.requires.at.2 in
    let len = c.len-code.ensures.len in
    let few = c.len-code.ensures.few in omega (arith, below, len, few)

pub try_membrane-holds_enough-requires-clause-at : goal.try_membrane-holds_enough-requires-clause-at
try_membrane-holds_enough-requires-clause-at g t c =
    let below : c.args.at < length c.args.code.now = slice_get_within c.args.code.now c.args.at (AnyMem (length c.args.set.now.membranes) c.requires.at.0) c.requires.at.2 in omega (arith, below)
