use Rattle.std.proofs.Common.{rules, ◌≡◌, inl, [], ◌∷◌, ◌++◌, ◌<◌, ◌≤◌, ◌+◌, length, drop, Some, None, refl, arith, ap, sym, subst, ◌∙◌}
use Rattle.std.specs.Option.{option_map}
use Rattle.lmn_store_heap.specs.Lists.{from}
use Rattle.lmn_store_heap.specs.Functors.{with_functor}
use Rattle.lmn_machine.specs.Asking.{AsksFor, AtomsFit, HoldsUpTo, IsGuest, TellsApart}
use Rattle.lmn_machine.proofs.Fitting.{MembranesFit, OnlyOne, atoms_fit, membranes_fit, only_home, only_left, only_fails, smaller}
use Rattle.std.specs.Prelude.{true, false}
use Rattle.std.specs.Prelude.{IfSome}
use Rattle.std.proofs.lemmas.Option.{slice_get_within}
use Rattle.lmn_store_heap.specs.Heap.{Heap, functor_of, home_of, parent_of, atoms_in, mems_in, Unmarked}
use Rattle.lmn_instr_code.specs.declared.instr.Instr.TheVariants.{FindAtom, AnyMem}
use Rattle.lmn_store_heap.specs.Sound.{Valid}
use Rattle.lmn_machine.specs.Outcomes.{ChoosesAtoms}
use Rattle.lmn_machine.specs.Searching.{AreHeldWhole, Extends, HeadInOrder, Searched, Stepped}
use Rattle.lmn_machine_registers.specs.declared.stack.TheConstants.{ROOM}
use Rattle.lmn_machine.specs.Jumping.{Lasted, with_atom, with_membrane}
use Rattle.lmn_machine.proofs.Differing.{each_holds_up_to, passed_up_to}
use Rattle.lmn_machine.proofs.Trying.{given_up, lasted, lasted_by, passed_lasted}
use Rattle.lmn_machine.proofs.Listing.{held_forgetting, lasted_listing, listing}
use Rattle.lmn_machine.proofs.Telling.{atoms_chosen, membranes_chosen}
use Rattle.lmn_machine.proofs.Stepping.{Passed, extends_itself, extends_on, passed_one, failed, passed_end}
use Rattle.lmn_machine.proofs.Choosing.{atoms_gone, AtomsLeft, MembranesLeft, extends_atom, extends_membrane, atoms_first, atoms_next, atoms_none, atoms_found, membranes_first, membranes_next, membranes_none, membranes_found, held_atom, held_membrane}
use Rattle.lmn_machine.proofs.Calling.{told_none, read_at, order_first, if_both, none_is, one_more, one_membrane_more, taken_back, having_atoms, having_membranes, next_same, next_mem_same, atom_ahead, membrane_ahead}
use Rattle.lmn_machine.proofs.search.+search.Goals as goal
use Rattle.lmn_base.proofs.Lists.{drop_get}
use Rattle.std.proofs.lemmas.List.{length_push}

pub begin-choose_atom-requires : goal.begin-choose_atom-requires
begin-choose_atom-requires g t c κs within =
    (search rules, (search rules, (search rules, (search rules, (c.requires.valid, (c.requires.unmarked, (c.requires.held, (c.at-first.ensures, (subst ChoosesAtoms (sym c.in-FindAtom.is) tt, (c.requires.order, c.requires.unlisted))))))))))

pub choose_atom_apart-choose_atom-requires : goal.choose_atom_apart-choose_atom-requires
choose_atom_apart-choose_atom-requires g t c κs within =
    (search rules, (search rules, (search rules, (search rules, (c.requires.valid, (c.requires.unmarked, (c.requires.held, (c.requires.at, (c.requires.choice, (c.requires.order, c.requires.unlisted))))))))))

pub choose_membrane_apart-choose_membrane-requires : goal.choose_membrane_apart-choose_membrane-requires
choose_membrane_apart-choose_membrane-requires g t c κs within =
    (search rules, (search rules, (search rules, (search rules, (c.requires.valid, (c.requires.unmarked, (c.requires.held, (c.requires.at, (c.requires.choice, (c.requires.order, c.requires.unlisted))))))))))

pub search_apart-search-requires : goal.search_apart-search-requires
search_apart-search-requires g t c κs within =
    (search rules, (search rules, (search rules, (search rules, (c.requires.valid, (c.requires.unmarked, (c.requires.held, (c.requires.at, (inl refl, c.requires.order)))))))))

pub begin-search_apart-requires : goal.begin-search_apart-requires
begin-search_apart-requires g t c κs within =
    (search rules, (search rules, (search rules, (search rules, (c.requires.valid, (c.requires.unmarked, (c.requires.held, (c.requires.at, c.requires.order))))))))

pub search-choose_atom_apart-requires : goal.search-choose_atom_apart-requires
search-choose_atom_apart-requires g t c κs within = (
  search rules,
  (
    search rules,
    (
      search rules,
      (
        search rules,
        (
          subst (λ h. Valid h) (sym (c.in-ChoosesAtom.ensures.same ∙ c.loop-i.invariant.same)) c.requires.valid,
          (
            subst (λ h. Unmarked h) (sym (c.in-ChoosesAtom.ensures.same ∙ c.loop-i.invariant.same)) c.requires.unmarked,
            (
              held_forgetting g.S.LinkStore.atom_id g.S.LinkStore.mem_id (g.S.LinkStore.heap c.step.new.store) c.step.new.set c.forget.new.self c.forget.ensures
                  (subst (λ k. AreHeldWhole g.S.LinkStore.atom_id g.S.LinkStore.mem_id (g.S.LinkStore.heap c.step.new.store) k) (sym c.in-ChoosesAtom.ensures.stepped.0)
                  (subst (λ h. AreHeldWhole g.S.LinkStore.atom_id g.S.LinkStore.mem_id h c.loop-i.set) (sym (c.in-ChoosesAtom.ensures.same ∙ c.loop-i.invariant.same)) c.loop-i.invariant.passed.held)),
              (
                c.at-instr.ensures,
                (
                  c.in-ChoosesAtom.ensures.stepped.1,
                  (
                    subst (λ k. HeadInOrder (length k.atoms) (length k.membranes) (length k.parts) (length k.integers) (drop c.loop-i.i c.args.code.now)) (sym c.in-ChoosesAtom.ensures.stepped.0) c.loop-i.invariant.passed.order,
                    c.forget.ensures,
                  ),
                ),
              ),
            ),
          ),
        ),
      ),
    ),
  ),
)

pub search-choose_membrane_apart-requires : goal.search-choose_membrane_apart-requires
search-choose_membrane_apart-requires g t c κs within = (
  search rules,
  (
    search rules,
    (
      search rules,
      (
        search rules,
        (
          subst (λ h. Valid h) (sym (c.in-ChoosesMembrane.ensures.same ∙ c.loop-i.invariant.same)) c.requires.valid,
          (
            subst (λ h. Unmarked h) (sym (c.in-ChoosesMembrane.ensures.same ∙ c.loop-i.invariant.same)) c.requires.unmarked,
            (
              held_forgetting g.S.LinkStore.atom_id g.S.LinkStore.mem_id (g.S.LinkStore.heap c.step.new.store) c.step.new.set c.forget-in-ChoosesMembrane.new.self c.forget-in-ChoosesMembrane.ensures
                  (subst (λ k. AreHeldWhole g.S.LinkStore.atom_id g.S.LinkStore.mem_id (g.S.LinkStore.heap c.step.new.store) k) (sym c.in-ChoosesMembrane.ensures.stepped.0)
                  (subst (λ h. AreHeldWhole g.S.LinkStore.atom_id g.S.LinkStore.mem_id h c.loop-i.set) (sym (c.in-ChoosesMembrane.ensures.same ∙ c.loop-i.invariant.same)) c.loop-i.invariant.passed.held)),
              (
                c.at-instr.ensures,
                (
                  c.in-ChoosesMembrane.ensures.stepped.1,
                  (
                    subst (λ k. HeadInOrder (length k.atoms) (length k.membranes) (length k.parts) (length k.integers) (drop c.loop-i.i c.args.code.now)) (sym c.in-ChoosesMembrane.ensures.stepped.0) c.loop-i.invariant.passed.order,
                    c.forget-in-ChoosesMembrane.ensures,
                  ),
                ),
              ),
            ),
          ),
        ),
      ),
    ),
  ),
)

pub search-returns-in-ChoosesAtom-clause-searched : goal.search-returns-in-ChoosesAtom-clause-searched
search-returns-in-ChoosesAtom-clause-searched g t c =
    passed_lasted g.S.LinkStore.atom_id g.S.LinkStore.mem_id (g.S.LinkStore.heap c.args.store.now) _ c.args.set.now c.loop-i.set c.choose_atom_apart.new.set (drop c.args.at c.args.code.now) (drop c.loop-i.i c.args.code.now)
    c.choose_atom_apart.result c.loop-i.invariant.passed
    (subst (λ k. Lasted c.choose_atom_apart.new.patience.left g.S.LinkStore.atom_id g.S.LinkStore.mem_id (g.S.LinkStore.heap c.args.store.now) k c.choose_atom_apart.new.set c.choose_atom_apart.result (drop c.loop-i.i c.args.code.now)) c.in-ChoosesAtom.ensures.stepped.0
    (lasted_listing g.S.LinkStore.atom_id g.S.LinkStore.mem_id (g.S.LinkStore.heap c.args.store.now) c.step.new.set c.forget.new.self _ c.choose_atom_apart.new.set c.choose_atom_apart.result (drop c.loop-i.i c.args.code.now)
    (subst (λ h. Lasted c.choose_atom_apart.new.patience.left g.S.LinkStore.atom_id g.S.LinkStore.mem_id h (listing c.step.new.set c.forget.new.self) c.choose_atom_apart.new.set c.choose_atom_apart.result (drop c.loop-i.i c.args.code.now)) (c.in-ChoosesAtom.ensures.same ∙ c.loop-i.invariant.same) c.choose_atom_apart.ensures.searched)))

pub search-returns-in-ChoosesMembrane-clause-searched : goal.search-returns-in-ChoosesMembrane-clause-searched
search-returns-in-ChoosesMembrane-clause-searched g t c =
    passed_lasted g.S.LinkStore.atom_id g.S.LinkStore.mem_id (g.S.LinkStore.heap c.args.store.now) _ c.args.set.now c.loop-i.set c.choose_membrane_apart.new.set (drop c.args.at c.args.code.now) (drop c.loop-i.i c.args.code.now)
    c.choose_membrane_apart.result c.loop-i.invariant.passed
    (subst (λ k. Lasted c.choose_membrane_apart.new.patience.left g.S.LinkStore.atom_id g.S.LinkStore.mem_id (g.S.LinkStore.heap c.args.store.now) k c.choose_membrane_apart.new.set c.choose_membrane_apart.result (drop c.loop-i.i c.args.code.now)) c.in-ChoosesMembrane.ensures.stepped.0
    (lasted_listing g.S.LinkStore.atom_id g.S.LinkStore.mem_id (g.S.LinkStore.heap c.args.store.now) c.step.new.set c.forget-in-ChoosesMembrane.new.self _ c.choose_membrane_apart.new.set c.choose_membrane_apart.result (drop c.loop-i.i c.args.code.now)
    (subst (λ h. Lasted c.choose_membrane_apart.new.patience.left g.S.LinkStore.atom_id g.S.LinkStore.mem_id h (listing c.step.new.set c.forget-in-ChoosesMembrane.new.self) c.choose_membrane_apart.new.set c.choose_membrane_apart.result (drop c.loop-i.i c.args.code.now)) (c.in-ChoosesMembrane.ensures.same ∙ c.loop-i.invariant.same) c.choose_membrane_apart.ensures.searched)))

pub search-returns-in-Fails-clause-searched : goal.search-returns-in-Fails-clause-searched
search-returns-in-Fails-clause-searched g t c =
    let ahead = drop_get c.loop-i.i c.args.code.now c.at-instr.result.now c.at-instr.ensures in
    lasted g.S.LinkStore.atom_id g.S.LinkStore.mem_id (g.S.LinkStore.heap c.args.store.now) _ _ _ _ _ (failed g.S.LinkStore.atom_id g.S.LinkStore.mem_id (g.S.LinkStore.heap c.args.store.now) c.args.set.now c.loop-i.set c.step.new.set (drop c.args.at c.args.code.now) (drop (c.loop-i.i + 1) c.args.code.now) c.at-instr.result.now
    (subst (λ left. Passed g.S.LinkStore.atom_id g.S.LinkStore.mem_id (g.S.LinkStore.heap c.args.store.now) c.args.set.now c.loop-i.set (drop c.args.at c.args.code.now) left) ahead c.loop-i.invariant.passed)
    (subst (λ h. Stepped g.S.LinkStore.atom_id g.S.LinkStore.mem_id h c.loop-i.set c.step.new.set false c.at-instr.result.now) c.loop-i.invariant.same c.in-Fails.ensures.stepped))

pub search-loop-i-preserved : goal.search-loop-i-preserved
search-loop-i-preserved g t c =
    let ahead = drop_get c.loop-i.i c.args.code.now c.at-instr.result.now c.at-instr.ensures in record {
      same = c.in-Holds.ensures.same ∙ c.loop-i.invariant.same;
      passed = passed_one g.S.LinkStore.atom_id g.S.LinkStore.mem_id (g.S.LinkStore.heap c.args.store.now) c.args.set.now c.loop-i.set c.step.new.set (drop c.args.at c.args.code.now) (drop (c.loop-i.i + 1) c.args.code.now) c.at-instr.result.now
          c.in-Holds.ensures.stepped.0
          (subst (λ left. Passed g.S.LinkStore.atom_id g.S.LinkStore.mem_id (g.S.LinkStore.heap c.args.store.now) c.args.set.now c.loop-i.set (drop c.args.at c.args.code.now) left) ahead c.loop-i.invariant.passed)
          (subst (λ h. Stepped g.S.LinkStore.atom_id g.S.LinkStore.mem_id h c.loop-i.set c.step.new.set true c.at-instr.result.now) c.loop-i.invariant.same c.in-Holds.ensures.stepped.1);
    }

pub search-returns-clause-searched : goal.search-returns-clause-searched
search-returns-clause-searched g t c =
    lasted g.S.LinkStore.atom_id g.S.LinkStore.mem_id (g.S.LinkStore.heap c.args.store.now) _ _ _ _ _ (passed_end g.S.LinkStore.atom_id g.S.LinkStore.mem_id (g.S.LinkStore.heap c.args.store.now) c.args.set.now c.loop-i.set (drop c.args.at c.args.code.now) c.args.code.now c.acts-i-end.result c.loop-i.i
    (let past = c.loop-i-test.false in omega (arith, past)) c.acts-i-end.ensures.none c.loop-i.invariant.passed)

pub choose_atom-search_atoms-requires : goal.choose_atom-search_atoms-requires
choose_atom-search_atoms-requires g t c κs within =
    let here = read_at c.args.code.now c.args.at c.args.instr.now (FindAtom c.in-FindAtom.atom c.in-FindAtom.membrane c.in-FindAtom.functor) c.requires.at c.in-FindAtom.is in
    let ahead = atom_ahead (length c.args.set.now.atoms) (length c.args.set.now.membranes) (length c.args.set.now.parts) (length c.args.set.now.integers) c.in-FindAtom.atom c.in-FindAtom.membrane c.in-FindAtom.functor (drop c.args.at c.args.code.now) (drop (c.args.at + 1) c.args.code.now)
    (drop_get c.args.at c.args.code.now (FindAtom c.in-FindAtom.atom c.in-FindAtom.membrane c.in-FindAtom.functor) here) c.requires.order in
    let there = here ∙ ap (λ x. Some (FindAtom x c.in-FindAtom.membrane c.in-FindAtom.functor)) ahead.0.0 in
    (search rules, (search rules, (search rules, (search rules, (c.requires.valid, (c.requires.unmarked, (c.requires.held, ((c.in-FindAtom.membrane, there, c.at-place.ensures), (c.in-Some.ensures.functor, (c.in-Some.ensures.home, (c.in-Some.ensures.list, (c.requires.order, c.requires.unlisted))))))))))))

pub choose_atom-returns-in-None-clause-searched : goal.choose_atom-returns-in-None-clause-searched
choose_atom-returns-in-None-clause-searched g t c =
    let here = read_at c.args.code.now c.args.at c.args.instr.now (FindAtom c.in-FindAtom.atom c.in-FindAtom.membrane c.in-FindAtom.functor) c.requires.at c.in-FindAtom.is in
    let ahead = atom_ahead (length c.args.set.now.atoms) (length c.args.set.now.membranes) (length c.args.set.now.parts) (length c.args.set.now.integers) c.in-FindAtom.atom c.in-FindAtom.membrane c.in-FindAtom.functor (drop c.args.at c.args.code.now) (drop (c.args.at + 1) c.args.code.now)
    (drop_get c.args.at c.args.code.now (FindAtom c.in-FindAtom.atom c.in-FindAtom.membrane c.in-FindAtom.functor) here) c.requires.order in
    let there = here ∙ ap (λ x. Some (FindAtom x c.in-FindAtom.membrane c.in-FindAtom.functor)) ahead.0.0 in
    lasted g.S.LinkStore.atom_id g.S.LinkStore.mem_id (g.S.LinkStore.heap c.args.store.now) _ _ _ _ _ (atoms_none g.S.LinkStore.atom_id g.S.LinkStore.mem_id (g.S.LinkStore.heap c.args.store.now) c.args.set.now (drop c.args.at c.args.code.now) c.in-FindAtom.functor c.at-place.result c.requires.held
    (atoms_first g.S.LinkStore.atom_id g.S.LinkStore.mem_id (g.S.LinkStore.heap c.args.store.now) c.args.set.now (drop c.args.at c.args.code.now) (drop (c.args.at + 1) c.args.code.now) c.in-FindAtom.functor c.in-FindAtom.membrane c.at-place.result None (drop_get c.args.at c.args.code.now (FindAtom (length c.args.set.now.atoms) c.in-FindAtom.membrane c.in-FindAtom.functor) there) c.at-place.ensures c.in-None.ensures.list))

pub choose_membrane-search_home-requires : goal.choose_membrane-search_home-requires
choose_membrane-search_home-requires g t c κs within =
    let here = read_at c.args.code.now c.args.at c.args.instr.now (AnyMem c.in-AnyMem.membrane c.in-AnyMem.inside) c.requires.at c.in-AnyMem.is in
    let ahead = membrane_ahead (length c.args.set.now.atoms) (length c.args.set.now.membranes) (length c.args.set.now.parts) (length c.args.set.now.integers) c.in-AnyMem.membrane c.in-AnyMem.inside (drop c.args.at c.args.code.now) (drop (c.args.at + 1) c.args.code.now)
    (drop_get c.args.at c.args.code.now (AnyMem c.in-AnyMem.membrane c.in-AnyMem.inside) here) c.requires.order in
    let there = here ∙ ap (λ x. Some (AnyMem x c.in-AnyMem.inside)) ahead.0.0 in
    (search rules, (search rules, (search rules, (search rules, (c.requires.valid, (c.requires.unmarked, (c.requires.held, ((c.in-AnyMem.inside, there, c.at-place.ensures), (c.in-Some.ensures.there, (subst (λ n. IsGuest g.S.LinkStore.atom_id g.S.LinkStore.mem_id (g.S.LinkStore.heap c.args.store.now) c.args.set.now (drop (c.args.at + 1) c.args.code.now) n (g.S.LinkStore.atom_id c.in-Some.guest)) c.len-register.ensures c.in-Some.ensures.guest, (c.requires.order, c.requires.unlisted)))))))))))

pub choose_membrane-search_membranes-requires : goal.choose_membrane-search_membranes-requires
choose_membrane-search_membranes-requires g t c κs within =
    let here = read_at c.args.code.now c.args.at c.args.instr.now (AnyMem c.in-AnyMem.membrane c.in-AnyMem.inside) c.requires.at c.in-AnyMem.is in
    let ahead = membrane_ahead (length c.args.set.now.atoms) (length c.args.set.now.membranes) (length c.args.set.now.parts) (length c.args.set.now.integers) c.in-AnyMem.membrane c.in-AnyMem.inside (drop c.args.at c.args.code.now) (drop (c.args.at + 1) c.args.code.now)
    (drop_get c.args.at c.args.code.now (AnyMem c.in-AnyMem.membrane c.in-AnyMem.inside) here) c.requires.order in
    let there = here ∙ ap (λ x. Some (AnyMem x c.in-AnyMem.inside)) ahead.0.0 in
    (search rules, (search rules, (search rules, (search rules, (c.requires.valid, (c.requires.unmarked, (c.requires.held, ((c.in-AnyMem.inside, there, c.at-place.ensures), (c.requires.order, c.requires.unlisted)))))))))

pub choose_membrane-overflow_add-at : goal.choose_membrane-overflow_add-at
choose_membrane-overflow_add-at g t c =
    let here = read_at c.args.code.now c.args.at c.args.instr.now (AnyMem c.in-AnyMem.membrane c.in-AnyMem.inside) c.requires.at c.in-AnyMem.is in
    let below : c.args.at < length c.args.code.now = slice_get_within c.args.code.now c.args.at (AnyMem c.in-AnyMem.membrane c.in-AnyMem.inside) here in
    let len = c.len-code.ensures.len in
    let few = c.len-code.ensures.few in omega (arith, below, len, few)

pub choose_atom-at-place-requires : goal.choose_atom-at-place-requires
choose_atom-at-place-requires g t c =
    let here = read_at c.args.code.now c.args.at c.args.instr.now (FindAtom c.in-FindAtom.atom c.in-FindAtom.membrane c.in-FindAtom.functor) c.requires.at c.in-FindAtom.is in
    let ahead = atom_ahead (length c.args.set.now.atoms) (length c.args.set.now.membranes) (length c.args.set.now.parts) (length c.args.set.now.integers) c.in-FindAtom.atom c.in-FindAtom.membrane c.in-FindAtom.functor (drop c.args.at c.args.code.now) (drop (c.args.at + 1) c.args.code.now)
    (drop_get c.args.at c.args.code.now (FindAtom c.in-FindAtom.atom c.in-FindAtom.membrane c.in-FindAtom.functor) here) c.requires.order in
    ahead.0.1

pub choose_membrane-at-place-requires : goal.choose_membrane-at-place-requires
choose_membrane-at-place-requires g t c =
    let here = read_at c.args.code.now c.args.at c.args.instr.now (AnyMem c.in-AnyMem.membrane c.in-AnyMem.inside) c.requires.at c.in-AnyMem.is in
    let ahead = membrane_ahead (length c.args.set.now.atoms) (length c.args.set.now.membranes) (length c.args.set.now.parts) (length c.args.set.now.integers) c.in-AnyMem.membrane c.in-AnyMem.inside (drop c.args.at c.args.code.now) (drop (c.args.at + 1) c.args.code.now)
    (drop_get c.args.at c.args.code.now (AnyMem c.in-AnyMem.membrane c.in-AnyMem.inside) here) c.requires.order in
    ahead.0.1

pub choose_atom-returns-in_default-clause-searched : goal.choose_atom-returns-in_default-clause-searched
choose_atom-returns-in_default-clause-searched g t c = absurd (atoms_chosen c.args.instr.now c.in_default.not-FindAtom c.requires.choice)

pub choose_membrane-returns-in_default-clause-searched : goal.choose_membrane-returns-in_default-clause-searched
choose_membrane-returns-in_default-clause-searched g t c = absurd (membranes_chosen c.args.instr.now c.in_default.not-AnyMem c.requires.choice)

pub search_atoms-loop-candidate-init : goal.search_atoms-loop-candidate-init
search_atoms-loop-candidate-init g t c = record {
  same = refl;
  set = refl;
  left = atoms_fit g.S.LinkStore.atom_id g.S.LinkStore.mem_id (g.S.LinkStore.heap c.args.store.now) c.args.set.now (drop c.args.at c.args.code.now) (drop (c.args.at + 1) c.args.code.now) c.args.functor c.requires.at.0 c.args.place (Some c.args.first) c.first_candidate-candidate.result (drop_get c.args.at c.args.code.now (FindAtom (length c.args.set.now.atoms) c.requires.at.0 c.args.functor) c.requires.at.1)
      (atoms_first g.S.LinkStore.atom_id g.S.LinkStore.mem_id (g.S.LinkStore.heap c.args.store.now) c.args.set.now (drop c.args.at c.args.code.now) (drop (c.args.at + 1) c.args.code.now) c.args.functor c.requires.at.0 c.args.place (Some c.args.first) (drop_get c.args.at c.args.code.now (FindAtom (length c.args.set.now.atoms) c.requires.at.0 c.args.functor) c.requires.at.1) c.requires.at.2 c.requires.list) c.first_candidate-candidate.ensures.fits.left;
  there = if_both (λ a. functor_of (g.S.LinkStore.heap c.args.store.now) (g.S.LinkStore.atom_id a) ≡ Some c.args.functor) (λ a. home_of (g.S.LinkStore.heap c.args.store.now) (g.S.LinkStore.atom_id a) ≡ Some (g.S.LinkStore.mem_id c.args.place)) c.first_candidate-candidate.result c.first_candidate-candidate.ensures.fits.functor c.first_candidate-candidate.ensures.fits.home;
  apart = each_holds_up_to g.S.LinkStore.atom_id g.S.LinkStore.mem_id (g.S.LinkStore.heap c.args.store.now) c.args.set.now c.args.code.now (c.args.at + 1) c.start_behind-start.result c.told_apart-other.result c.first_candidate-candidate.result c.start_behind-start.ensures c.told_apart-other.ensures c.first_candidate-candidate.ensures.apart;
}

pub search_atoms-further_candidate-candidate-requires-clause-held : goal.search_atoms-further_candidate-candidate-requires-clause-held
search_atoms-further_candidate-candidate-requires-clause-held g t c =
    let same : g.S.LinkStore.heap c.search.new.store ≡ g.S.LinkStore.heap c.args.store.now = c.search.ensures.same ∙ c.loop-candidate.invariant.same in
    let more = one_more c.args.set.now c.loop-candidate.set c.in-Some.atom c.push.new.self c.loop-candidate.invariant.set c.push.ensures in
    let searched = subst (λ k. Searched g.S.LinkStore.atom_id g.S.LinkStore.mem_id (g.S.LinkStore.heap c.args.store.now) k c.search.new.set false (drop (c.args.at + 1) c.args.code.now)) more (subst (λ b. Searched g.S.LinkStore.atom_id g.S.LinkStore.mem_id (g.S.LinkStore.heap c.args.store.now) (having_atoms c.loop-candidate.set c.push.new.self) c.search.new.set b (drop (c.args.at + 1) c.args.code.now)) c.if-search.false
    (subst (λ h. Searched g.S.LinkStore.atom_id g.S.LinkStore.mem_id h (having_atoms c.loop-candidate.set c.push.new.self) c.search.new.set c.search.result (drop (c.args.at + 1) c.args.code.now)) c.loop-candidate.invariant.same (c.search.ensures.searched.searched (c.lasts.ensures.some c.if-not-lasts.false)))) in
    let none = (atom_ahead (length c.args.set.now.atoms) (length c.args.set.now.membranes) (length c.args.set.now.parts) (length c.args.set.now.integers) (length c.args.set.now.atoms) c.requires.at.0 c.args.functor (drop c.args.at c.args.code.now) (drop (c.args.at + 1) c.args.code.now)
    (drop_get c.args.at c.args.code.now (FindAtom (length c.args.set.now.atoms) c.requires.at.0 c.args.functor) c.requires.at.1) c.requires.order).0.3 in
    let taken = taken_back c.args.set.now c.search.new.set c.keep.new.self c.len-atoms.result c.len-membranes.result 0 c.len-integers.result c.len-atoms.ensures c.len-membranes.ensures (sym none) c.len-integers.ensures
    (extends_on g.S.LinkStore.atom_id g.S.LinkStore.mem_id (g.S.LinkStore.heap c.args.store.now) c.args.set.now (with_atom c.args.set.now c.in-Some.atom) c.search.new.set (extends_atom g.S.LinkStore.atom_id g.S.LinkStore.mem_id (g.S.LinkStore.heap c.args.store.now) c.args.set.now c.in-Some.atom) searched.extends) c.requires.unlisted c.keep.ensures in
    subst (λ k. AreHeldWhole g.S.LinkStore.atom_id g.S.LinkStore.mem_id (g.S.LinkStore.heap c.search.new.store) k) (sym taken) (subst (λ h. AreHeldWhole g.S.LinkStore.atom_id g.S.LinkStore.mem_id h c.args.set.now) (sym same) c.requires.held)

pub search_atoms-loop-candidate-smaller : goal.search_atoms-loop-candidate-smaller
search_atoms-loop-candidate-smaller g t c =
    let same : g.S.LinkStore.heap c.search.new.store ≡ g.S.LinkStore.heap c.args.store.now = c.search.ensures.same ∙ c.loop-candidate.invariant.same in
    let there = subst (λ o. IfSome o (λ a. (functor_of (g.S.LinkStore.heap c.args.store.now) (g.S.LinkStore.atom_id a) ≡ Some c.args.functor) × (home_of (g.S.LinkStore.heap c.args.store.now) (g.S.LinkStore.atom_id a) ≡ Some (g.S.LinkStore.mem_id c.args.place)))) c.in-Some.is c.loop-candidate.invariant.there in
    let next = next_same g.S.LinkStore.atom_id (g.S.LinkStore.heap c.args.store.now) (g.S.LinkStore.heap c.search.new.store) c.in-Some.atom c.next_with-next.result same c.next_with-next.ensures.list c.next_with-next.ensures.functor c.next_with-next.ensures.home in
    let further = subst (λ (h : Heap). length (from (option_map g.S.LinkStore.atom_id c.further_candidate-candidate.result) (with_functor h c.args.functor (atoms_in h (g.S.LinkStore.mem_id c.args.place)))) ≤ length (from (option_map g.S.LinkStore.atom_id c.next_with-next.result) (with_functor h c.args.functor (atoms_in h (g.S.LinkStore.mem_id c.args.place))))) same c.further_candidate-candidate.ensures.fits.further in
    subst (λ o. length (from (option_map g.S.LinkStore.atom_id c.further_candidate-candidate.result) (with_functor (g.S.LinkStore.heap c.args.store.now) c.args.functor (atoms_in (g.S.LinkStore.heap c.args.store.now) (g.S.LinkStore.mem_id c.args.place)))) < length (from (option_map g.S.LinkStore.atom_id o) (with_functor (g.S.LinkStore.heap c.args.store.now) c.args.functor (atoms_in (g.S.LinkStore.heap c.args.store.now) (g.S.LinkStore.mem_id c.args.place))))) (sym c.in-Some.is)
    (smaller (g.S.LinkStore.atom_id c.in-Some.atom) (option_map g.S.LinkStore.atom_id c.next_with-next.result) (option_map g.S.LinkStore.atom_id c.further_candidate-candidate.result) (with_functor (g.S.LinkStore.heap c.args.store.now) c.args.functor (atoms_in (g.S.LinkStore.heap c.args.store.now) (g.S.LinkStore.mem_id c.args.place))) (next.0 (g.S.LinkStore.mem_id c.args.place) c.args.functor there.1 there.0) further)

pub search_atoms-loop-candidate-preserved : goal.search_atoms-loop-candidate-preserved
search_atoms-loop-candidate-preserved g t c =
    let same : g.S.LinkStore.heap c.search.new.store ≡ g.S.LinkStore.heap c.args.store.now = c.search.ensures.same ∙ c.loop-candidate.invariant.same in
    let more = one_more c.args.set.now c.loop-candidate.set c.in-Some.atom c.push.new.self c.loop-candidate.invariant.set c.push.ensures in
    let searched = subst (λ k. Searched g.S.LinkStore.atom_id g.S.LinkStore.mem_id (g.S.LinkStore.heap c.args.store.now) k c.search.new.set false (drop (c.args.at + 1) c.args.code.now)) more (subst (λ b. Searched g.S.LinkStore.atom_id g.S.LinkStore.mem_id (g.S.LinkStore.heap c.args.store.now) (having_atoms c.loop-candidate.set c.push.new.self) c.search.new.set b (drop (c.args.at + 1) c.args.code.now)) c.if-search.false
    (subst (λ h. Searched g.S.LinkStore.atom_id g.S.LinkStore.mem_id h (having_atoms c.loop-candidate.set c.push.new.self) c.search.new.set c.search.result (drop (c.args.at + 1) c.args.code.now)) c.loop-candidate.invariant.same (c.search.ensures.searched.searched (c.lasts.ensures.some c.if-not-lasts.false)))) in
    let none = (atom_ahead (length c.args.set.now.atoms) (length c.args.set.now.membranes) (length c.args.set.now.parts) (length c.args.set.now.integers) (length c.args.set.now.atoms) c.requires.at.0 c.args.functor (drop c.args.at c.args.code.now) (drop (c.args.at + 1) c.args.code.now)
    (drop_get c.args.at c.args.code.now (FindAtom (length c.args.set.now.atoms) c.requires.at.0 c.args.functor) c.requires.at.1) c.requires.order).0.3 in
    let taken = taken_back c.args.set.now c.search.new.set c.keep.new.self c.len-atoms.result c.len-membranes.result 0 c.len-integers.result c.len-atoms.ensures c.len-membranes.ensures (sym none) c.len-integers.ensures
    (extends_on g.S.LinkStore.atom_id g.S.LinkStore.mem_id (g.S.LinkStore.heap c.args.store.now) c.args.set.now (with_atom c.args.set.now c.in-Some.atom) c.search.new.set (extends_atom g.S.LinkStore.atom_id g.S.LinkStore.mem_id (g.S.LinkStore.heap c.args.store.now) c.args.set.now c.in-Some.atom) searched.extends) c.requires.unlisted c.keep.ensures in
    let there = subst (λ o. IfSome o (λ a. (functor_of (g.S.LinkStore.heap c.args.store.now) (g.S.LinkStore.atom_id a) ≡ Some c.args.functor) × (home_of (g.S.LinkStore.heap c.args.store.now) (g.S.LinkStore.atom_id a) ≡ Some (g.S.LinkStore.mem_id c.args.place)))) c.in-Some.is c.loop-candidate.invariant.there in
    let next = next_same g.S.LinkStore.atom_id (g.S.LinkStore.heap c.args.store.now) (g.S.LinkStore.heap c.search.new.store) c.in-Some.atom c.next_with-next.result same c.next_with-next.ensures.list c.next_with-next.ensures.functor c.next_with-next.ensures.home in
    let left = subst (λ o. AtomsLeft g.S.LinkStore.atom_id g.S.LinkStore.mem_id (g.S.LinkStore.heap c.args.store.now) c.args.set.now (drop c.args.at c.args.code.now) c.args.functor c.args.place o) c.in-Some.is c.loop-candidate.invariant.left in
    let fit = subst (λ k. AtomsFit g.S.LinkStore.atom_id g.S.LinkStore.mem_id (g.S.LinkStore.heap c.args.store.now) k (drop (c.args.at + 1) c.args.code.now) c.args.functor (g.S.LinkStore.mem_id c.args.place) c.next_with-next.result c.further_candidate-candidate.result) taken
    (subst (λ h. AtomsFit g.S.LinkStore.atom_id g.S.LinkStore.mem_id h c.keep.new.self (drop (c.args.at + 1) c.args.code.now) c.args.functor (g.S.LinkStore.mem_id c.args.place) c.next_with-next.result c.further_candidate-candidate.result) same c.further_candidate-candidate.ensures.fits.left) in
    record {
      same = same;
      set = taken;
      left = atoms_fit g.S.LinkStore.atom_id g.S.LinkStore.mem_id (g.S.LinkStore.heap c.args.store.now) c.args.set.now (drop c.args.at c.args.code.now) (drop (c.args.at + 1) c.args.code.now) c.args.functor c.requires.at.0 c.args.place c.next_with-next.result c.further_candidate-candidate.result (drop_get c.args.at c.args.code.now (FindAtom (length c.args.set.now.atoms) c.requires.at.0 c.args.functor) c.requires.at.1)
          (atoms_next g.S.LinkStore.atom_id g.S.LinkStore.mem_id (g.S.LinkStore.heap c.args.store.now) c.args.set.now c.search.new.set (drop c.args.at c.args.code.now) (drop (c.args.at + 1) c.args.code.now) c.args.functor c.requires.at.0 c.args.place c.in-Some.atom c.next_with-next.result (drop_get c.args.at c.args.code.now (FindAtom (length c.args.set.now.atoms) c.requires.at.0 c.args.functor) c.requires.at.1) left searched (next.0 (g.S.LinkStore.mem_id c.args.place) c.args.functor there.1 there.0)) fit;
      there = if_both (λ a. functor_of (g.S.LinkStore.heap c.args.store.now) (g.S.LinkStore.atom_id a) ≡ Some c.args.functor) (λ a. home_of (g.S.LinkStore.heap c.args.store.now) (g.S.LinkStore.atom_id a) ≡ Some (g.S.LinkStore.mem_id c.args.place)) c.further_candidate-candidate.result
          (subst (λ (h : Heap). IfSome c.further_candidate-candidate.result (λ a. functor_of h (g.S.LinkStore.atom_id a) ≡ Some c.args.functor)) same c.further_candidate-candidate.ensures.fits.functor)
          (subst (λ (h : Heap). IfSome c.further_candidate-candidate.result (λ a. home_of h (g.S.LinkStore.atom_id a) ≡ Some (g.S.LinkStore.mem_id c.args.place))) same c.further_candidate-candidate.ensures.fits.home);
      apart = each_holds_up_to g.S.LinkStore.atom_id g.S.LinkStore.mem_id (g.S.LinkStore.heap c.args.store.now) c.args.set.now c.args.code.now (c.args.at + 1) c.start_behind-start-in-Some.result c.told_apart-other-in-Some.result c.further_candidate-candidate.result c.start_behind-start-in-Some.ensures
          (subst (λ k. IfSome c.told_apart-other-in-Some.result (λ b. TellsApart k c.args.code.now (c.args.at + 1) b)) taken c.told_apart-other-in-Some.ensures) c.further_candidate-candidate.ensures.apart;
    }

pub search_atoms-push-requires : goal.search_atoms-push-requires
search_atoms-push-requires g t c =
    let ahead = atom_ahead (length c.args.set.now.atoms) (length c.args.set.now.membranes) (length c.args.set.now.parts) (length c.args.set.now.integers) (length c.args.set.now.atoms) c.requires.at.0 c.args.functor (drop c.args.at c.args.code.now) (drop (c.args.at + 1) c.args.code.now)
    (drop_get c.args.at c.args.code.now (FindAtom (length c.args.set.now.atoms) c.requires.at.0 c.args.functor) c.requires.at.1) c.requires.order in
    subst (λ k. length k.atoms < ROOM) (sym c.loop-candidate.invariant.set) ahead.0.2

pub search_atoms-search-requires : goal.search_atoms-search-requires
search_atoms-search-requires g t c κs within =
    let apart = subst (λ o. IfSome o (λ a. HoldsUpTo g.S.LinkStore.atom_id (c.args.set.now.atoms ++ a ∷ []) c.args.code.now (c.args.at + 1) c.loop-candidate.start)) c.in-Some.is c.loop-candidate.invariant.apart in
    let there = subst (λ o. IfSome o (λ a. (functor_of (g.S.LinkStore.heap c.args.store.now) (g.S.LinkStore.atom_id a) ≡ Some c.args.functor) × (home_of (g.S.LinkStore.heap c.args.store.now) (g.S.LinkStore.atom_id a) ≡ Some (g.S.LinkStore.mem_id c.args.place)))) c.in-Some.is c.loop-candidate.invariant.there in
    let more = one_more c.args.set.now c.loop-candidate.set c.in-Some.atom c.push.new.self c.loop-candidate.invariant.set c.push.ensures in
    let code = drop_get c.args.at c.args.code.now (FindAtom (length c.args.set.now.atoms) c.requires.at.0 c.args.functor) c.requires.at.1 in
    let ahead = atom_ahead (length c.args.set.now.atoms) (length c.args.set.now.membranes) (length c.args.set.now.parts) (length c.args.set.now.integers) (length c.args.set.now.atoms) c.requires.at.0 c.args.functor (drop c.args.at c.args.code.now) (drop (c.args.at + 1) c.args.code.now) code c.requires.order in
    let below : c.args.at < length c.args.code.now = slice_get_within c.args.code.now c.args.at (FindAtom (length c.args.set.now.atoms) c.requires.at.0 c.args.functor) c.requires.at.1 in
    let held = subst (λ k. AreHeldWhole g.S.LinkStore.atom_id g.S.LinkStore.mem_id (g.S.LinkStore.heap c.args.store.now) k) (sym more) (held_atom g.S.LinkStore.atom_id g.S.LinkStore.mem_id (g.S.LinkStore.heap c.args.store.now) c.args.set.now c.in-Some.atom c.args.functor ahead.0.3 c.requires.held there.0) in
    let next = subst (λ n. HeadInOrder n (length c.args.set.now.membranes) (length c.args.set.now.parts) (length c.args.set.now.integers) (drop (c.args.at + 1) c.args.code.now)) (sym (length_push c.args.set.now.atoms c.in-Some.atom)) ahead.1 in (
      search rules,
      (
        search rules,
        (
          search rules,
          (
            search rules,
            (
              subst (λ h. Valid h) (sym c.loop-candidate.invariant.same) c.requires.valid,
              (
                subst (λ h. Unmarked h) (sym c.loop-candidate.invariant.same) c.requires.unmarked,
                (
                  subst (λ h. AreHeldWhole g.S.LinkStore.atom_id g.S.LinkStore.mem_id h (having_atoms c.loop-candidate.set c.push.new.self)) (sym c.loop-candidate.invariant.same) held,
                  (
                    omega arith,
                    (
                      subst (λ k. HoldsUpTo g.S.LinkStore.atom_id k.atoms c.args.code.now (c.args.at + 1) c.loop-candidate.start) (sym more) apart,
                      subst (λ k. HeadInOrder (length k.atoms) (length k.membranes) (length k.parts) (length k.integers) (drop (c.args.at + 1) c.args.code.now)) (sym more) next,
                    ),
                  ),
                ),
              ),
            ),
          ),
        ),
      ),
    )

pub search_atoms-returns-then-search-clause-searched : goal.search_atoms-returns-then-search-clause-searched
search_atoms-returns-then-search-clause-searched g t c =
    let there = subst (λ o. IfSome o (λ a. (functor_of (g.S.LinkStore.heap c.args.store.now) (g.S.LinkStore.atom_id a) ≡ Some c.args.functor) × (home_of (g.S.LinkStore.heap c.args.store.now) (g.S.LinkStore.atom_id a) ≡ Some (g.S.LinkStore.mem_id c.args.place)))) c.in-Some.is c.loop-candidate.invariant.there in
    let more = one_more c.args.set.now c.loop-candidate.set c.in-Some.atom c.push.new.self c.loop-candidate.invariant.set c.push.ensures in
    let code = drop_get c.args.at c.args.code.now (FindAtom (length c.args.set.now.atoms) c.requires.at.0 c.args.functor) c.requires.at.1 in
    let left = subst (λ o. AtomsLeft g.S.LinkStore.atom_id g.S.LinkStore.mem_id (g.S.LinkStore.heap c.args.store.now) c.args.set.now (drop c.args.at c.args.code.now) c.args.functor c.args.place o) c.in-Some.is c.loop-candidate.invariant.left in
    lasted g.S.LinkStore.atom_id g.S.LinkStore.mem_id (g.S.LinkStore.heap c.args.store.now) _ _ _ _ _ (atoms_found g.S.LinkStore.atom_id g.S.LinkStore.mem_id (g.S.LinkStore.heap c.args.store.now) c.args.set.now c.search.new.set (drop c.args.at c.args.code.now) (drop (c.args.at + 1) c.args.code.now) c.args.functor c.requires.at.0 c.args.place c.in-Some.atom code c.requires.at.2
    c.requires.valid.sound.listed there.1 there.0 left
    (subst (λ k. Searched g.S.LinkStore.atom_id g.S.LinkStore.mem_id (g.S.LinkStore.heap c.args.store.now) k c.search.new.set true (drop (c.args.at + 1) c.args.code.now)) more (subst (λ b. Searched g.S.LinkStore.atom_id g.S.LinkStore.mem_id (g.S.LinkStore.heap c.args.store.now) (having_atoms c.loop-candidate.set c.push.new.self) c.search.new.set b (drop (c.args.at + 1) c.args.code.now)) c.if-search.true
    (subst (λ h. Searched g.S.LinkStore.atom_id g.S.LinkStore.mem_id h (having_atoms c.loop-candidate.set c.push.new.self) c.search.new.set c.search.result (drop (c.args.at + 1) c.args.code.now)) c.loop-candidate.invariant.same (c.search.ensures.searched.found c.if-search.true)))))

pub search_atoms-returns-then-is_none-clause-searched : goal.search_atoms-returns-then-is_none-clause-searched
search_atoms-returns-then-is_none-clause-searched g t c =
    let same : g.S.LinkStore.heap c.search.new.store ≡ g.S.LinkStore.heap c.args.store.now = c.search.ensures.same ∙ c.loop-candidate.invariant.same in
    let more = one_more c.args.set.now c.loop-candidate.set c.in-Some.atom c.push.new.self c.loop-candidate.invariant.set c.push.ensures in
    let code = drop_get c.args.at c.args.code.now (FindAtom (length c.args.set.now.atoms) c.requires.at.0 c.args.functor) c.requires.at.1 in
    let there = subst (λ o. IfSome o (λ a. (functor_of (g.S.LinkStore.heap c.args.store.now) (g.S.LinkStore.atom_id a) ≡ Some c.args.functor) × (home_of (g.S.LinkStore.heap c.args.store.now) (g.S.LinkStore.atom_id a) ≡ Some (g.S.LinkStore.mem_id c.args.place)))) c.in-Some.is c.loop-candidate.invariant.there in
    let next = next_same g.S.LinkStore.atom_id (g.S.LinkStore.heap c.args.store.now) (g.S.LinkStore.heap c.search.new.store) c.in-Some.atom c.next_with-next.result same c.next_with-next.ensures.list c.next_with-next.ensures.functor c.next_with-next.ensures.home in
    let left = subst (λ o. AtomsLeft g.S.LinkStore.atom_id g.S.LinkStore.mem_id (g.S.LinkStore.heap c.args.store.now) c.args.set.now (drop c.args.at c.args.code.now) c.args.functor c.args.place o) c.in-Some.is c.loop-candidate.invariant.left in
    let extends = extends_on g.S.LinkStore.atom_id g.S.LinkStore.mem_id (g.S.LinkStore.heap c.args.store.now) c.args.set.now (with_atom c.args.set.now c.in-Some.atom) c.search.new.set (extends_atom g.S.LinkStore.atom_id g.S.LinkStore.mem_id (g.S.LinkStore.heap c.args.store.now) c.args.set.now c.in-Some.atom) (subst (λ k. Extends k c.search.new.set) more c.search.ensures.searched.extends) in
    let held = subst (λ h. AreHeldWhole g.S.LinkStore.atom_id g.S.LinkStore.mem_id h c.search.new.set) c.loop-candidate.invariant.same c.search.ensures.searched.held in
    lasted_by g.S.LinkStore.atom_id g.S.LinkStore.mem_id (g.S.LinkStore.heap c.args.store.now) c.search.new.patience.left c.args.set.now c.search.new.set (drop c.args.at c.args.code.now) held extends
    (λ l. (let searched = subst (λ k. Searched g.S.LinkStore.atom_id g.S.LinkStore.mem_id (g.S.LinkStore.heap c.args.store.now) k c.search.new.set false (drop (c.args.at + 1) c.args.code.now)) more (subst (λ b. Searched g.S.LinkStore.atom_id g.S.LinkStore.mem_id (g.S.LinkStore.heap c.args.store.now) (having_atoms c.loop-candidate.set c.push.new.self) c.search.new.set b (drop (c.args.at + 1) c.args.code.now)) c.if-search.false
    (subst (λ h. Searched g.S.LinkStore.atom_id g.S.LinkStore.mem_id h (having_atoms c.loop-candidate.set c.push.new.self) c.search.new.set c.search.result (drop (c.args.at + 1) c.args.code.now)) c.loop-candidate.invariant.same (c.search.ensures.searched.searched l))) in
    atoms_gone g.S.LinkStore.atom_id g.S.LinkStore.mem_id (g.S.LinkStore.heap c.args.store.now) c.args.set.now c.search.new.set (drop c.args.at c.args.code.now) c.args.functor c.args.place held extends
    (subst (λ o. AtomsLeft g.S.LinkStore.atom_id g.S.LinkStore.mem_id (g.S.LinkStore.heap c.args.store.now) c.args.set.now (drop c.args.at c.args.code.now) c.args.functor c.args.place o) (told_none c.next_with-next.result c.is_none.result c.is_none.ensures c.if-is_none.true)
    (atoms_next g.S.LinkStore.atom_id g.S.LinkStore.mem_id (g.S.LinkStore.heap c.args.store.now) c.args.set.now c.search.new.set (drop c.args.at c.args.code.now) (drop (c.args.at + 1) c.args.code.now) c.args.functor c.requires.at.0 c.args.place c.in-Some.atom c.next_with-next.result code left searched (next.0 (g.S.LinkStore.mem_id c.args.place) c.args.functor there.1 there.0)))))

pub search_atoms-returns-then-not-lasts-clause-searched : goal.search_atoms-returns-then-not-lasts-clause-searched
search_atoms-returns-then-not-lasts-clause-searched g t c =
    let more = one_more c.args.set.now c.loop-candidate.set c.in-Some.atom c.push.new.self c.loop-candidate.invariant.set c.push.ensures in
    given_up g.S.LinkStore.atom_id g.S.LinkStore.mem_id (g.S.LinkStore.heap c.args.store.now) c.lasts.new.self.left c.args.set.now c.search.new.set (drop c.args.at c.args.code.now) (c.lasts.ensures.gone c.if-not-lasts.true)
    (subst (λ h. AreHeldWhole g.S.LinkStore.atom_id g.S.LinkStore.mem_id h c.search.new.set) c.loop-candidate.invariant.same c.search.ensures.searched.held)
    (extends_on g.S.LinkStore.atom_id g.S.LinkStore.mem_id (g.S.LinkStore.heap c.args.store.now) c.args.set.now (with_atom c.args.set.now c.in-Some.atom) c.search.new.set (extends_atom g.S.LinkStore.atom_id g.S.LinkStore.mem_id (g.S.LinkStore.heap c.args.store.now) c.args.set.now c.in-Some.atom) (subst (λ k. Extends k c.search.new.set) more c.search.ensures.searched.extends))

pub search_atoms-returns-clause-searched : goal.search_atoms-returns-clause-searched
search_atoms-returns-clause-searched g t c =
    let left = subst (λ o. AtomsLeft g.S.LinkStore.atom_id g.S.LinkStore.mem_id (g.S.LinkStore.heap c.args.store.now) c.args.set.now (drop c.args.at c.args.code.now) c.args.functor c.args.place o) (none_is c.loop-candidate.candidate c.in_default.not-Some) c.loop-candidate.invariant.left in
    lasted g.S.LinkStore.atom_id g.S.LinkStore.mem_id (g.S.LinkStore.heap c.args.store.now) _ _ _ _ _ (subst (λ k. Searched g.S.LinkStore.atom_id g.S.LinkStore.mem_id (g.S.LinkStore.heap c.args.store.now) c.args.set.now k false (drop c.args.at c.args.code.now)) (sym c.loop-candidate.invariant.set) (atoms_none g.S.LinkStore.atom_id g.S.LinkStore.mem_id (g.S.LinkStore.heap c.args.store.now) c.args.set.now (drop c.args.at c.args.code.now) c.args.functor c.args.place c.requires.held left))

pub search_home-push-requires : goal.search_home-push-requires
search_home-push-requires g t c =
    let ahead = membrane_ahead (length c.args.set.now.atoms) (length c.args.set.now.membranes) (length c.args.set.now.parts) (length c.args.set.now.integers) (length c.args.set.now.membranes) c.requires.at.0 (drop c.args.at c.args.code.now) (drop (c.args.at + 1) c.args.code.now) (drop_get c.args.at c.args.code.now (AnyMem (length c.args.set.now.membranes) c.requires.at.0) c.requires.at.1) c.requires.order in
    ahead.0.2

pub search_home-begin-requires : goal.search_home-begin-requires
search_home-begin-requires g t c κs within =
    let more = one_membrane_more c.args.set.now c.args.set.now c.in-Some.membrane c.push.new.self refl c.push.ensures in
    let ahead = membrane_ahead (length c.args.set.now.atoms) (length c.args.set.now.membranes) (length c.args.set.now.parts) (length c.args.set.now.integers) (length c.args.set.now.membranes) c.requires.at.0 (drop c.args.at c.args.code.now) (drop (c.args.at + 1) c.args.code.now) (drop_get c.args.at c.args.code.now (AnyMem (length c.args.set.now.membranes) c.requires.at.0) c.requires.at.1) c.requires.order in
    let below : c.args.at < length c.args.code.now = slice_get_within c.args.code.now c.args.at (AnyMem (length c.args.set.now.membranes) c.requires.at.0) c.requires.at.1 in
    let held = subst (λ k. AreHeldWhole g.S.LinkStore.atom_id g.S.LinkStore.mem_id (g.S.LinkStore.heap c.args.store.now) k) (sym more) (held_membrane g.S.LinkStore.atom_id g.S.LinkStore.mem_id (g.S.LinkStore.heap c.args.store.now) c.args.set.now c.in-Some.membrane (g.S.LinkStore.mem_id c.args.place) c.requires.held c.in-Some.ensures.parent) in
    let next = subst (λ n. HeadInOrder (length c.args.set.now.atoms) n (length c.args.set.now.parts) (length c.args.set.now.integers) (drop (c.args.at + 1) c.args.code.now)) (sym (length_push c.args.set.now.membranes c.in-Some.membrane)) ahead.1 in (
      search rules,
      (
        search rules,
        (
          search rules,
          (
            search rules,
            (
              c.requires.valid,
              (c.requires.unmarked, (held, (omega arith, (subst (λ k. HeadInOrder (length k.atoms) (length k.membranes) (length k.parts) (length k.integers) (drop (c.args.at + 1) c.args.code.now)) (sym more) next, c.requires.unlisted)))),
            ),
          ),
        ),
      ),
    )

pub search_home-returns-then-begin-clause-searched : goal.search_home-returns-then-begin-clause-searched
search_home-returns-then-begin-clause-searched g t c =
    let more = one_membrane_more c.args.set.now c.args.set.now c.in-Some.membrane c.push.new.self refl c.push.ensures in
    let only = subst (λ o. OnlyOne g.S.LinkStore.atom_id g.S.LinkStore.mem_id (g.S.LinkStore.heap c.args.store.now) c.args.set.now (drop c.args.at c.args.code.now) o) c.in-Some.is
    (only_home g.S.LinkStore.atom_id g.S.LinkStore.mem_id (g.S.LinkStore.heap c.args.store.now) c.args.set.now (drop c.args.at c.args.code.now) (drop (c.args.at + 1) c.args.code.now) c.requires.at.0 c.args.place (g.S.LinkStore.atom_id c.args.guest) c.home_within.result (drop_get c.args.at c.args.code.now (AnyMem (length c.args.set.now.membranes) c.requires.at.0) c.requires.at.1) c.requires.at.2 c.requires.guest c.home_within.ensures.only) in
    let searched = subst (λ k. Searched g.S.LinkStore.atom_id g.S.LinkStore.mem_id (g.S.LinkStore.heap c.args.store.now) k c.begin.new.set true (drop (c.args.at + 1) c.args.code.now)) more (subst (λ b. Searched g.S.LinkStore.atom_id g.S.LinkStore.mem_id (g.S.LinkStore.heap c.args.store.now) (having_membranes c.args.set.now c.push.new.self) c.begin.new.set b (drop (c.args.at + 1) c.args.code.now)) c.if-begin.true (c.begin.ensures.searched.found c.if-begin.true)) in
    lasted g.S.LinkStore.atom_id g.S.LinkStore.mem_id (g.S.LinkStore.heap c.args.store.now) _ _ _ _ _ (membranes_found g.S.LinkStore.atom_id g.S.LinkStore.mem_id (g.S.LinkStore.heap c.args.store.now) c.args.set.now c.begin.new.set (drop c.args.at c.args.code.now) (drop (c.args.at + 1) c.args.code.now) c.requires.at.0 c.args.place c.in-Some.membrane (drop_get c.args.at c.args.code.now (AnyMem (length c.args.set.now.membranes) c.requires.at.0) c.requires.at.1) c.requires.at.2 c.requires.valid.sound.listed c.in-Some.ensures.parent
    (only_left g.S.LinkStore.atom_id g.S.LinkStore.mem_id (g.S.LinkStore.heap c.args.store.now) c.args.set.now (drop c.args.at c.args.code.now) c.args.place (Some c.in-Some.membrane) only) searched)

pub search_home-returns-else-begin-clause-searched : goal.search_home-returns-else-begin-clause-searched
search_home-returns-else-begin-clause-searched g t c =
    let more = one_membrane_more c.args.set.now c.args.set.now c.in-Some.membrane c.push.new.self refl c.push.ensures in
    let only = subst (λ o. OnlyOne g.S.LinkStore.atom_id g.S.LinkStore.mem_id (g.S.LinkStore.heap c.args.store.now) c.args.set.now (drop c.args.at c.args.code.now) o) c.in-Some.is
    (only_home g.S.LinkStore.atom_id g.S.LinkStore.mem_id (g.S.LinkStore.heap c.args.store.now) c.args.set.now (drop c.args.at c.args.code.now) (drop (c.args.at + 1) c.args.code.now) c.requires.at.0 c.args.place (g.S.LinkStore.atom_id c.args.guest) c.home_within.result (drop_get c.args.at c.args.code.now (AnyMem (length c.args.set.now.membranes) c.requires.at.0) c.requires.at.1) c.requires.at.2 c.requires.guest c.home_within.ensures.only) in
    let searched = λ (l : 0 < c.begin.new.patience.left). subst (λ k. Searched g.S.LinkStore.atom_id g.S.LinkStore.mem_id (g.S.LinkStore.heap c.args.store.now) k c.begin.new.set false (drop (c.args.at + 1) c.args.code.now)) more (subst (λ b. Searched g.S.LinkStore.atom_id g.S.LinkStore.mem_id (g.S.LinkStore.heap c.args.store.now) (having_membranes c.args.set.now c.push.new.self) c.begin.new.set b (drop (c.args.at + 1) c.args.code.now)) c.if-begin.false (c.begin.ensures.searched.searched l)) in
    let taken = taken_back c.args.set.now c.begin.new.set c.keep.new.self c.len-atoms.result c.len-membranes.result c.len-parts.result c.len-integers.result c.len-atoms.ensures c.len-membranes.ensures c.len-parts.ensures c.len-integers.ensures
    (extends_on g.S.LinkStore.atom_id g.S.LinkStore.mem_id (g.S.LinkStore.heap c.args.store.now) c.args.set.now (with_membrane c.args.set.now c.in-Some.membrane) c.begin.new.set (extends_membrane g.S.LinkStore.atom_id g.S.LinkStore.mem_id (g.S.LinkStore.heap c.args.store.now) c.args.set.now c.in-Some.membrane) (subst (λ k. Extends k c.begin.new.set) more c.begin.ensures.searched.extends)) c.requires.unlisted c.keep.ensures in
    subst (λ k. Lasted c.begin.new.patience.left g.S.LinkStore.atom_id g.S.LinkStore.mem_id (g.S.LinkStore.heap c.args.store.now) c.args.set.now k false (drop c.args.at c.args.code.now)) (sym taken) (lasted_by g.S.LinkStore.atom_id g.S.LinkStore.mem_id (g.S.LinkStore.heap c.args.store.now) c.begin.new.patience.left c.args.set.now c.args.set.now (drop c.args.at c.args.code.now) c.requires.held (extends_itself g.S.LinkStore.atom_id g.S.LinkStore.mem_id (g.S.LinkStore.heap c.args.store.now) c.args.set.now) (λ l. only_fails g.S.LinkStore.atom_id g.S.LinkStore.mem_id (g.S.LinkStore.heap c.args.store.now) c.args.set.now c.begin.new.set (drop c.args.at c.args.code.now) (drop (c.args.at + 1) c.args.code.now) c.requires.at.0 c.in-Some.membrane (drop_get c.args.at c.args.code.now (AnyMem (length c.args.set.now.membranes) c.requires.at.0) c.requires.at.1) c.requires.held only (searched l)))

pub search_home-returns-in-None-clause-searched : goal.search_home-returns-in-None-clause-searched
search_home-returns-in-None-clause-searched g t c =
    let only = subst (λ o. OnlyOne g.S.LinkStore.atom_id g.S.LinkStore.mem_id (g.S.LinkStore.heap c.args.store.now) c.args.set.now (drop c.args.at c.args.code.now) o) c.in-None.is
    (only_home g.S.LinkStore.atom_id g.S.LinkStore.mem_id (g.S.LinkStore.heap c.args.store.now) c.args.set.now (drop c.args.at c.args.code.now) (drop (c.args.at + 1) c.args.code.now) c.requires.at.0 c.args.place (g.S.LinkStore.atom_id c.args.guest) c.home_within.result (drop_get c.args.at c.args.code.now (AnyMem (length c.args.set.now.membranes) c.requires.at.0) c.requires.at.1) c.requires.at.2 c.requires.guest c.home_within.ensures.only) in
    lasted g.S.LinkStore.atom_id g.S.LinkStore.mem_id (g.S.LinkStore.heap c.args.store.now) _ _ _ _ _ (membranes_none g.S.LinkStore.atom_id g.S.LinkStore.mem_id (g.S.LinkStore.heap c.args.store.now) c.args.set.now (drop c.args.at c.args.code.now) c.args.place c.requires.held (only_left g.S.LinkStore.atom_id g.S.LinkStore.mem_id (g.S.LinkStore.heap c.args.store.now) c.args.set.now (drop c.args.at c.args.code.now) c.args.place None only))

pub search_membranes-loop-candidate-init : goal.search_membranes-loop-candidate-init
search_membranes-loop-candidate-init g t c =
    let asks = subst (λ n. IfSome c.asked-asked.result (λ f. AsksFor c.args.code.now (c.args.at + 1) n f)) c.len-membranes.ensures c.asked-asked.ensures in
    record {
      same = refl;
      set = refl;
      left = membranes_fit g.S.LinkStore.atom_id g.S.LinkStore.mem_id (g.S.LinkStore.heap c.args.store.now) c.args.set.now c.args.code.now (drop c.args.at c.args.code.now) (c.args.at + 1) c.requires.at.0 c.args.place c.asked-asked.result c.first_mem-first.result c.fitting_membrane-candidate.result (drop_get c.args.at c.args.code.now (AnyMem (length c.args.set.now.membranes) c.requires.at.0) c.requires.at.1)
          (membranes_first g.S.LinkStore.atom_id g.S.LinkStore.mem_id (g.S.LinkStore.heap c.args.store.now) c.args.set.now (drop c.args.at c.args.code.now) (drop (c.args.at + 1) c.args.code.now) c.requires.at.0 c.args.place c.first_mem-first.result (drop_get c.args.at c.args.code.now (AnyMem (length c.args.set.now.membranes) c.requires.at.0) c.requires.at.1) c.requires.at.2 c.first_mem-first.ensures.list) asks c.fitting_membrane-candidate.ensures.left;
      there = c.fitting_membrane-candidate.ensures.parent;
    }

pub search_membranes-loop-candidate-smaller : goal.search_membranes-loop-candidate-smaller
search_membranes-loop-candidate-smaller g t c =
    let same : g.S.LinkStore.heap c.begin.new.store ≡ g.S.LinkStore.heap c.args.store.now = c.begin.ensures.same ∙ c.loop-candidate.invariant.same in
    let there = subst (λ o. IfSome o (λ m. parent_of (g.S.LinkStore.heap c.args.store.now) (g.S.LinkStore.mem_id m) ≡ Some (g.S.LinkStore.mem_id c.args.place))) c.in-Some.is c.loop-candidate.invariant.there in
    let next = next_mem_same g.S.LinkStore.mem_id (g.S.LinkStore.heap c.args.store.now) (g.S.LinkStore.heap c.begin.new.store) c.in-Some.membrane c.next_mem-next.result same c.next_mem-next.ensures.list c.next_mem-next.ensures.parent in
    let further = subst (λ (h : Heap). length (from (option_map g.S.LinkStore.mem_id c.fitting_membrane-candidate-in-Some.result) (mems_in h (g.S.LinkStore.mem_id c.args.place))) ≤ length (from (option_map g.S.LinkStore.mem_id c.next_mem-next.result) (mems_in h (g.S.LinkStore.mem_id c.args.place)))) same c.fitting_membrane-candidate-in-Some.ensures.further in
    subst (λ o. length (from (option_map g.S.LinkStore.mem_id c.fitting_membrane-candidate-in-Some.result) (mems_in (g.S.LinkStore.heap c.args.store.now) (g.S.LinkStore.mem_id c.args.place))) < length (from (option_map g.S.LinkStore.mem_id o) (mems_in (g.S.LinkStore.heap c.args.store.now) (g.S.LinkStore.mem_id c.args.place)))) (sym c.in-Some.is)
    (smaller (g.S.LinkStore.mem_id c.in-Some.membrane) (option_map g.S.LinkStore.mem_id c.next_mem-next.result) (option_map g.S.LinkStore.mem_id c.fitting_membrane-candidate-in-Some.result) (mems_in (g.S.LinkStore.heap c.args.store.now) (g.S.LinkStore.mem_id c.args.place)) (next.0 (g.S.LinkStore.mem_id c.args.place) there) further)

pub search_membranes-loop-candidate-preserved : goal.search_membranes-loop-candidate-preserved
search_membranes-loop-candidate-preserved g t c =
    let same : g.S.LinkStore.heap c.begin.new.store ≡ g.S.LinkStore.heap c.args.store.now = c.begin.ensures.same ∙ c.loop-candidate.invariant.same in
    let there = subst (λ o. IfSome o (λ m. parent_of (g.S.LinkStore.heap c.args.store.now) (g.S.LinkStore.mem_id m) ≡ Some (g.S.LinkStore.mem_id c.args.place))) c.in-Some.is c.loop-candidate.invariant.there in
    let next = next_mem_same g.S.LinkStore.mem_id (g.S.LinkStore.heap c.args.store.now) (g.S.LinkStore.heap c.begin.new.store) c.in-Some.membrane c.next_mem-next.result same c.next_mem-next.ensures.list c.next_mem-next.ensures.parent in
    let asks = subst (λ n. IfSome c.asked-asked.result (λ f. AsksFor c.args.code.now (c.args.at + 1) n f)) c.len-membranes.ensures c.asked-asked.ensures in
    let more = one_membrane_more c.args.set.now c.loop-candidate.set c.in-Some.membrane c.push.new.self c.loop-candidate.invariant.set c.push.ensures in
    let left = subst (λ o. MembranesLeft g.S.LinkStore.atom_id g.S.LinkStore.mem_id (g.S.LinkStore.heap c.args.store.now) c.args.set.now (drop c.args.at c.args.code.now) c.args.place o) c.in-Some.is c.loop-candidate.invariant.left in
    let searched = subst (λ k. Searched g.S.LinkStore.atom_id g.S.LinkStore.mem_id (g.S.LinkStore.heap c.args.store.now) k c.begin.new.set false (drop (c.args.at + 1) c.args.code.now)) more (subst (λ b. Searched g.S.LinkStore.atom_id g.S.LinkStore.mem_id (g.S.LinkStore.heap c.args.store.now) (having_membranes c.loop-candidate.set c.push.new.self) c.begin.new.set b (drop (c.args.at + 1) c.args.code.now)) c.if-begin.false
    (subst (λ h. Searched g.S.LinkStore.atom_id g.S.LinkStore.mem_id h (having_membranes c.loop-candidate.set c.push.new.self) c.begin.new.set c.begin.result (drop (c.args.at + 1) c.args.code.now)) c.loop-candidate.invariant.same (c.begin.ensures.searched.searched (c.lasts.ensures.some c.if-not-lasts.false)))) in
    let fit = subst (λ h. MembranesFit g.S.LinkStore.mem_id h c.asked-asked.result (g.S.LinkStore.mem_id c.args.place) c.next_mem-next.result c.fitting_membrane-candidate-in-Some.result) same c.fitting_membrane-candidate-in-Some.ensures.left in
    record {
      same = same;
      set = taken_back c.args.set.now c.begin.new.set c.keep.new.self c.len-atoms.result c.len-membranes.result c.len-parts.result c.len-integers.result c.len-atoms.ensures c.len-membranes.ensures c.len-parts.ensures c.len-integers.ensures
          (extends_on g.S.LinkStore.atom_id g.S.LinkStore.mem_id (g.S.LinkStore.heap c.args.store.now) c.args.set.now (with_membrane c.args.set.now c.in-Some.membrane) c.begin.new.set (extends_membrane g.S.LinkStore.atom_id g.S.LinkStore.mem_id (g.S.LinkStore.heap c.args.store.now) c.args.set.now c.in-Some.membrane) searched.extends) c.requires.unlisted c.keep.ensures;
      left = membranes_fit g.S.LinkStore.atom_id g.S.LinkStore.mem_id (g.S.LinkStore.heap c.args.store.now) c.args.set.now c.args.code.now (drop c.args.at c.args.code.now) (c.args.at + 1) c.requires.at.0 c.args.place c.asked-asked.result c.next_mem-next.result c.fitting_membrane-candidate-in-Some.result (drop_get c.args.at c.args.code.now (AnyMem (length c.args.set.now.membranes) c.requires.at.0) c.requires.at.1)
          (membranes_next g.S.LinkStore.atom_id g.S.LinkStore.mem_id (g.S.LinkStore.heap c.args.store.now) c.args.set.now c.begin.new.set (drop c.args.at c.args.code.now) (drop (c.args.at + 1) c.args.code.now) c.requires.at.0 c.args.place c.in-Some.membrane c.next_mem-next.result (drop_get c.args.at c.args.code.now (AnyMem (length c.args.set.now.membranes) c.requires.at.0) c.requires.at.1) left searched (next.0 (g.S.LinkStore.mem_id c.args.place) there)) asks fit;
      there = subst (λ (h : Heap). IfSome c.fitting_membrane-candidate-in-Some.result (λ m. parent_of h (g.S.LinkStore.mem_id m) ≡ Some (g.S.LinkStore.mem_id c.args.place))) same c.fitting_membrane-candidate-in-Some.ensures.parent;
    }

pub search_membranes-push-requires : goal.search_membranes-push-requires
search_membranes-push-requires g t c =
    let ahead = membrane_ahead (length c.args.set.now.atoms) (length c.args.set.now.membranes) (length c.args.set.now.parts) (length c.args.set.now.integers) (length c.args.set.now.membranes) c.requires.at.0 (drop c.args.at c.args.code.now) (drop (c.args.at + 1) c.args.code.now)
    (drop_get c.args.at c.args.code.now (AnyMem (length c.args.set.now.membranes) c.requires.at.0) c.requires.at.1) c.requires.order in
    subst (λ k. length k.membranes < ROOM) (sym c.loop-candidate.invariant.set) ahead.0.2

pub search_membranes-begin-requires : goal.search_membranes-begin-requires
search_membranes-begin-requires g t c κs within =
    let there = subst (λ o. IfSome o (λ m. parent_of (g.S.LinkStore.heap c.args.store.now) (g.S.LinkStore.mem_id m) ≡ Some (g.S.LinkStore.mem_id c.args.place))) c.in-Some.is c.loop-candidate.invariant.there in
    let more = one_membrane_more c.args.set.now c.loop-candidate.set c.in-Some.membrane c.push.new.self c.loop-candidate.invariant.set c.push.ensures in
    let code = drop_get c.args.at c.args.code.now (AnyMem (length c.args.set.now.membranes) c.requires.at.0) c.requires.at.1 in
    let ahead = membrane_ahead (length c.args.set.now.atoms) (length c.args.set.now.membranes) (length c.args.set.now.parts) (length c.args.set.now.integers) (length c.args.set.now.membranes) c.requires.at.0 (drop c.args.at c.args.code.now) (drop (c.args.at + 1) c.args.code.now) code c.requires.order in
    let below : c.args.at < length c.args.code.now = slice_get_within c.args.code.now c.args.at (AnyMem (length c.args.set.now.membranes) c.requires.at.0) c.requires.at.1 in
    let held = subst (λ k. AreHeldWhole g.S.LinkStore.atom_id g.S.LinkStore.mem_id (g.S.LinkStore.heap c.args.store.now) k) (sym more) (held_membrane g.S.LinkStore.atom_id g.S.LinkStore.mem_id (g.S.LinkStore.heap c.args.store.now) c.args.set.now c.in-Some.membrane (g.S.LinkStore.mem_id c.args.place) c.requires.held there) in
    let next = subst (λ n. HeadInOrder (length c.args.set.now.atoms) n (length c.args.set.now.parts) (length c.args.set.now.integers) (drop (c.args.at + 1) c.args.code.now)) (sym (length_push c.args.set.now.membranes c.in-Some.membrane)) ahead.1 in (
      search rules,
      (
        search rules,
        (
          search rules,
          (
            search rules,
            (
              subst (λ h. Valid h) (sym c.loop-candidate.invariant.same) c.requires.valid,
              (
                subst (λ h. Unmarked h) (sym c.loop-candidate.invariant.same) c.requires.unmarked,
                (
                  subst (λ h. AreHeldWhole g.S.LinkStore.atom_id g.S.LinkStore.mem_id h (having_membranes c.loop-candidate.set c.push.new.self)) (sym c.loop-candidate.invariant.same) held,
                  (
                    omega arith,
                    (
                      subst (λ k. HeadInOrder (length k.atoms) (length k.membranes) (length k.parts) (length k.integers) (drop (c.args.at + 1) c.args.code.now)) (sym more) next,
                      ap (λ k. k.listed) c.loop-candidate.invariant.set ∙ c.requires.unlisted,
                    ),
                  ),
                ),
              ),
            ),
          ),
        ),
      ),
    )

pub search_membranes-returns-then-begin-clause-searched : goal.search_membranes-returns-then-begin-clause-searched
search_membranes-returns-then-begin-clause-searched g t c =
    let there = subst (λ o. IfSome o (λ m. parent_of (g.S.LinkStore.heap c.args.store.now) (g.S.LinkStore.mem_id m) ≡ Some (g.S.LinkStore.mem_id c.args.place))) c.in-Some.is c.loop-candidate.invariant.there in
    let more = one_membrane_more c.args.set.now c.loop-candidate.set c.in-Some.membrane c.push.new.self c.loop-candidate.invariant.set c.push.ensures in
    let code = drop_get c.args.at c.args.code.now (AnyMem (length c.args.set.now.membranes) c.requires.at.0) c.requires.at.1 in
    let left = subst (λ o. MembranesLeft g.S.LinkStore.atom_id g.S.LinkStore.mem_id (g.S.LinkStore.heap c.args.store.now) c.args.set.now (drop c.args.at c.args.code.now) c.args.place o) c.in-Some.is c.loop-candidate.invariant.left in
    lasted g.S.LinkStore.atom_id g.S.LinkStore.mem_id (g.S.LinkStore.heap c.args.store.now) _ _ _ _ _ (membranes_found g.S.LinkStore.atom_id g.S.LinkStore.mem_id (g.S.LinkStore.heap c.args.store.now) c.args.set.now c.begin.new.set (drop c.args.at c.args.code.now) (drop (c.args.at + 1) c.args.code.now) c.requires.at.0 c.args.place c.in-Some.membrane code c.requires.at.2
    c.requires.valid.sound.listed there left
    (subst (λ k. Searched g.S.LinkStore.atom_id g.S.LinkStore.mem_id (g.S.LinkStore.heap c.args.store.now) k c.begin.new.set true (drop (c.args.at + 1) c.args.code.now)) more (subst (λ b. Searched g.S.LinkStore.atom_id g.S.LinkStore.mem_id (g.S.LinkStore.heap c.args.store.now) (having_membranes c.loop-candidate.set c.push.new.self) c.begin.new.set b (drop (c.args.at + 1) c.args.code.now)) c.if-begin.true
    (subst (λ h. Searched g.S.LinkStore.atom_id g.S.LinkStore.mem_id h (having_membranes c.loop-candidate.set c.push.new.self) c.begin.new.set c.begin.result (drop (c.args.at + 1) c.args.code.now)) c.loop-candidate.invariant.same (c.begin.ensures.searched.found c.if-begin.true)))))

pub search_membranes-returns-then-not-lasts-clause-searched : goal.search_membranes-returns-then-not-lasts-clause-searched
search_membranes-returns-then-not-lasts-clause-searched g t c =
    let more = one_membrane_more c.args.set.now c.loop-candidate.set c.in-Some.membrane c.push.new.self c.loop-candidate.invariant.set c.push.ensures in
    given_up g.S.LinkStore.atom_id g.S.LinkStore.mem_id (g.S.LinkStore.heap c.args.store.now) c.lasts.new.self.left c.args.set.now c.begin.new.set (drop c.args.at c.args.code.now) (c.lasts.ensures.gone c.if-not-lasts.true)
    (subst (λ h. AreHeldWhole g.S.LinkStore.atom_id g.S.LinkStore.mem_id h c.begin.new.set) c.loop-candidate.invariant.same c.begin.ensures.searched.held)
    (extends_on g.S.LinkStore.atom_id g.S.LinkStore.mem_id (g.S.LinkStore.heap c.args.store.now) c.args.set.now (with_membrane c.args.set.now c.in-Some.membrane) c.begin.new.set (extends_membrane g.S.LinkStore.atom_id g.S.LinkStore.mem_id (g.S.LinkStore.heap c.args.store.now) c.args.set.now c.in-Some.membrane) (subst (λ k. Extends k c.begin.new.set) more c.begin.ensures.searched.extends))

pub search_membranes-returns-clause-searched : goal.search_membranes-returns-clause-searched
search_membranes-returns-clause-searched g t c =
    let left = subst (λ o. MembranesLeft g.S.LinkStore.atom_id g.S.LinkStore.mem_id (g.S.LinkStore.heap c.args.store.now) c.args.set.now (drop c.args.at c.args.code.now) c.args.place o) (none_is c.loop-candidate.candidate c.in_default.not-Some) c.loop-candidate.invariant.left in
    lasted g.S.LinkStore.atom_id g.S.LinkStore.mem_id (g.S.LinkStore.heap c.args.store.now) _ _ _ _ _ (subst (λ k. Searched g.S.LinkStore.atom_id g.S.LinkStore.mem_id (g.S.LinkStore.heap c.args.store.now) c.args.set.now k false (drop c.args.at c.args.code.now)) (sym c.loop-candidate.invariant.set) (membranes_none g.S.LinkStore.atom_id g.S.LinkStore.mem_id (g.S.LinkStore.heap c.args.store.now) c.args.set.now (drop c.args.at c.args.code.now) c.args.place c.requires.held left))

pub search-step-requires : goal.search-step-requires
search-step-requires g t c =
    let ahead = drop_get c.loop-i.i c.args.code.now c.at-instr.result.now c.at-instr.ensures in record {
      valid = subst (λ h. Valid h) (sym c.loop-i.invariant.same) c.requires.valid;
      unmarked = subst (λ h. Unmarked h) (sym c.loop-i.invariant.same) c.requires.unmarked;
      held = subst (λ h. AreHeldWhole g.S.LinkStore.atom_id g.S.LinkStore.mem_id h c.loop-i.set) (sym c.loop-i.invariant.same) c.loop-i.invariant.passed.held;
      order = order_first c.at-instr.result.now (length c.loop-i.set.atoms) (length c.loop-i.set.membranes) (length c.loop-i.set.parts) (length c.loop-i.set.integers) (drop (c.loop-i.i + 1) c.args.code.now)
          (subst (λ left. HeadInOrder (length c.loop-i.set.atoms) (length c.loop-i.set.membranes) (length c.loop-i.set.parts) (length c.loop-i.set.integers) left) ahead c.loop-i.invariant.passed.order);
    }

pub search_atoms-overflow_add-rest : goal.search_atoms-overflow_add-rest
search_atoms-overflow_add-rest g t c =
    let below : c.args.at < length c.args.code.now = slice_get_within c.args.code.now c.args.at (FindAtom (length c.args.set.now.atoms) c.requires.at.0 c.args.functor) c.requires.at.1 in
    let len = c.len-code.ensures.len in
    let few = c.len-code.ensures.few in omega (arith, below, len, few)

pub search_home-overflow_add-rest : goal.search_home-overflow_add-rest
search_home-overflow_add-rest g t c =
    let below : c.args.at < length c.args.code.now = slice_get_within c.args.code.now c.args.at (AnyMem (length c.args.set.now.membranes) c.requires.at.0) c.requires.at.1 in
    let len = c.len-code.ensures.len in
    let few = c.len-code.ensures.few in omega (arith, below, len, few)

pub search_membranes-overflow_add-rest : goal.search_membranes-overflow_add-rest
search_membranes-overflow_add-rest g t c =
    let below : c.args.at < length c.args.code.now = slice_get_within c.args.code.now c.args.at (AnyMem (length c.args.set.now.membranes) c.requires.at.0) c.requires.at.1 in
    let len = c.len-code.ensures.len in
    let few = c.len-code.ensures.few in omega (arith, below, len, few)

pub search-loop-i-init : goal.search-loop-i-init
search-loop-i-init g t c = record {
  same = refl;
  passed = passed_up_to g.S.LinkStore.atom_id g.S.LinkStore.mem_id (g.S.LinkStore.heap c.args.store.now) c.args.set.now c.args.code.now c.args.at c.args.start c.requires.start c.requires.held c.requires.order;
}
