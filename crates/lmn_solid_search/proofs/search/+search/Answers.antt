use Rattle.std.proofs.Common.{◌≡◌, ◌∙◌, ◌<◌, ◌≤◌, ◌+◌, ◌-◌, ◌*◌, refl, sym, ap, subst, arith, length, take, drop, slice_index_or}
use Rattle.std.proofs.lemmas.Result.{IfOk-weaker}
use Rattle.lmn_base.specs.Lists.{In}
use Rattle.lmn_base.proofs.Lists.{holds_of_item}
use Rattle.lmn_store_heap.specs.Heap.{atoms_in, mems_in}
use Rattle.lmn_solid_tables.specs.Flats.{heap_of}
use Rattle.lmn_solid_heads.specs.declared.items.HeadItem.TheVariants.{Atom, Typed, Membrane}
use Rattle.lmn_solid_search.specs.Choosing.{Allowed, IsNew, Sits, atoms_inside, membranes_inside, with_atom, with_membrane}
use Rattle.lmn_solid_search.specs.Placing.{outermost_in}
use Rattle.lmn_solid_search.specs.Reasoning.{IsAmong, bit}
use Rattle.lmn_solid_search.specs.declared.numbers.Numbers.TheVariants.{These}
use Rattle.lmn_solid_search.specs.declared.placed.Placed.{Placed}
use Rattle.lmn_solid_search.proofs.BelowLemmas.{inner_mem}
use Rattle.lmn_solid_search.proofs.AheadLemmas.{home_there, refused_membrane}
use Rattle.lmn_solid_search.proofs.ChoosingLemmas.{answers_atom, answers_membrane, answers_typed, atom_back, before_there, begins_with, end_atoms, end_membranes, ends_failed, ends_found, left_so, made_there, membrane_back, membrane_there, none_all, nothing_left, one_failed, one_found, one_past, refused_atom, rest_long, room_for, sits_atom, sits_membrane, sits_typed, with_failed, with_found}
use Rattle.lmn_solid_search.proofs.OutsideLemmas.{atom_listed}
use Rattle.lmn_solid_search.proofs.PairingLemmas.{port_differs}
use Rattle.lmn_solid_search.proofs.ReasoningLemmas.{agrees_atom, agrees_membrane, past_atom, past_membrane, same_inside, within_on}
use Rattle.lmn_solid_search.proofs.search.+search.Goals as goal
use Rattle.lmn_adequacy_heaps.proofs.OutOf.{index_in as item_in}

pub search-fulfil-requires-clause-atoms : goal.search-fulfil-requires-clause-atoms
search-fulfil-requires-clause-atoms t c = end_atoms (heap_of c.args.flat.now) c.args.head.now c.args.items.now c.args.placed.now (nothing_left c.args.items.now c.in-empty.len_below) c.requires.sits

pub search-fulfil-requires-clause-membranes : goal.search-fulfil-requires-clause-membranes
search-fulfil-requires-clause-membranes t c = end_membranes (heap_of c.args.flat.now) c.args.head.now c.args.items.now c.args.placed.now (nothing_left c.args.items.now c.in-empty.len_below) c.requires.sits

pub search-fulfil-requires-clause-outermost : goal.search-fulfil-requires-clause-outermost
search-fulfil-requires-clause-outermost t c = λ n a g. subst (λ k. outermost_in c.args.head.now.membranes a.inside ≤ k) (sym (end_membranes (heap_of c.args.flat.now) c.args.head.now c.args.items.now c.args.placed.now (nothing_left c.args.items.now c.in-empty.len_below) c.requires.sits)) (c.requires.head.outermost n a g)

pub search-fulfil-requires-clause-inside : goal.search-fulfil-requires-clause-inside
search-fulfil-requires-clause-inside t c = λ n a g. subst (λ k. a.inside ≤ k) (sym (end_membranes (heap_of c.args.flat.now) c.args.head.now c.args.items.now c.args.placed.now (nothing_left c.args.items.now c.in-empty.len_below) c.requires.sits)) (c.requires.head.inside n a g)

pub search-membrane-requires : goal.search-membrane-requires
search-membrane-requires t c = let s = subst (λ ys. Sits (heap_of c.args.flat.now) c.args.head.now ys c.args.placed.now) (begins_with c.args.items.now c.first-item.result (Atom c.in-Atom.functor c.in-Atom.links c.in-Atom.inside) (let l = c.in-len1-up.len_at_least in omega (arith, l)) c.first-item.is c.in-Atom.is) c.requires.sits in s.inside.0

pub search-membrane-requires-in-Membrane : goal.search-membrane-requires-in-Membrane
search-membrane-requires-in-Membrane t c = let s = subst (λ ys. Sits (heap_of c.args.flat.now) c.args.head.now ys c.args.placed.now) (begins_with c.args.items.now c.first-item.result (Membrane c.in-Membrane.inside c.in-Membrane.has_context c.in-Membrane.has_closed_context c.in-Membrane.has_rule_context) (let l = c.in-len1-up.len_at_least in omega (arith, l)) c.first-item.is c.in-Membrane.is) c.requires.sits in s.inside.0

pub search-atoms-choices-requires : goal.search-atoms-choices-requires
search-atoms-choices-requires t c = let s = subst (λ ys. Sits (heap_of c.args.flat.now) c.args.head.now ys c.args.placed.now) (begins_with c.args.items.now c.first-item.result (Atom c.in-Atom.functor c.in-Atom.links c.in-Atom.inside) (let l = c.in-len1-up.len_at_least in omega (arith, l)) c.first-item.is c.in-Atom.is) c.requires.sits in membrane_there (heap_of c.args.flat.now) c.args.placed.now c.in-Atom.inside c.membrane.result s.placed s.inside.0 c.membrane.ensures

pub search-membranes-choices-requires : goal.search-membranes-choices-requires
search-membranes-choices-requires t c = let s = subst (λ ys. Sits (heap_of c.args.flat.now) c.args.head.now ys c.args.placed.now) (begins_with c.args.items.now c.first-item.result (Membrane c.in-Membrane.inside c.in-Membrane.has_context c.in-Membrane.has_closed_context c.in-Membrane.has_rule_context) (let l = c.in-len1-up.len_at_least in omega (arith, l)) c.first-item.is c.in-Membrane.is) c.requires.sits in membrane_there (heap_of c.args.flat.now) c.args.placed.now c.in-Membrane.inside c.membrane-in-Membrane.result s.placed s.inside.0 c.membrane-in-Membrane.ensures

pub search-try_atoms-requires : goal.search-try_atoms-requires
search-try_atoms-requires t c =
    let long = rest_long c.args.items.now c.in-len1-up.len_at_least in
    let whole : 3 * length c.args.items.now ≡ t = c.decreases in
    let less : 3 * length (take (length c.args.items.now - 1) (drop 1 c.args.items.now)) + 2 < t = omega (arith, long, whole) in
    let s = subst (λ ys. Sits (heap_of c.args.flat.now) c.args.head.now ys c.args.placed.now) (begins_with c.args.items.now c.first-item.result (Atom c.in-Atom.functor c.in-Atom.links c.in-Atom.inside) c.in-len1-up.len_at_least c.first-item.is c.in-Atom.is) c.requires.sits in
    (less, (c.requires.valid, (c.requires.head, (λ a i. sits_atom (heap_of c.args.flat.now) c.args.head.now c.args.placed.now (take (length c.args.items.now - 1) (drop 1 c.args.items.now)) c.in-Atom.functor c.in-Atom.links c.in-Atom.inside a s (atom_listed (heap_of c.args.flat.now) c.membrane.result a c.requires.valid (subst (In a) c.atoms-choices.ensures i)), (s.inside.0, (c.atoms-choices.ensures ∙ ap (atoms_in (heap_of c.args.flat.now)) c.membrane.ensures, c.requires.room))))))

pub search-search-requires : goal.search-search-requires
search-search-requires t c =
    let long = rest_long c.args.items.now c.in-len1-up.len_at_least in
    let whole : 3 * length c.args.items.now ≡ t = c.decreases in
    let less : 3 * length (take (length c.args.items.now - 1) (drop 1 c.args.items.now)) < t = omega (arith, long, whole) in
    (less, (c.requires.valid, (c.requires.head, (sits_typed (heap_of c.args.flat.now) c.args.head.now c.args.placed.now (take (length c.args.items.now - 1) (drop 1 c.args.items.now)) c.in-Typed.name c.in-Typed.kind c.in-Typed.link c.in-Typed.inside (subst (λ ys. Sits (heap_of c.args.flat.now) c.args.head.now ys c.args.placed.now) (begins_with c.args.items.now c.first-item.result (Typed c.in-Typed.name c.in-Typed.kind c.in-Typed.link c.in-Typed.inside) c.in-len1-up.len_at_least c.first-item.is c.in-Typed.is) c.requires.sits), c.requires.room))))

pub search-try_membranes-requires : goal.search-try_membranes-requires
search-try_membranes-requires t c =
    let long = rest_long c.args.items.now c.in-len1-up.len_at_least in
    let whole : 3 * length c.args.items.now ≡ t = c.decreases in
    let less : 3 * length (take (length c.args.items.now - 1) (drop 1 c.args.items.now)) + 2 < t = omega (arith, long, whole) in
    let s = subst (λ ys. Sits (heap_of c.args.flat.now) c.args.head.now ys c.args.placed.now) (begins_with c.args.items.now c.first-item.result (Membrane c.in-Membrane.inside c.in-Membrane.has_context c.in-Membrane.has_closed_context c.in-Membrane.has_rule_context) c.in-len1-up.len_at_least c.first-item.is c.in-Membrane.is) c.requires.sits in
    (less, (c.requires.valid, (c.requires.head, (λ m i. sits_membrane (heap_of c.args.flat.now) c.args.head.now c.args.placed.now (take (length c.args.items.now - 1) (drop 1 c.args.items.now)) c.in-Membrane.inside c.in-Membrane.has_context c.in-Membrane.has_closed_context c.in-Membrane.has_rule_context m s (inner_mem (heap_of c.args.flat.now) c.requires.valid c.membrane-in-Membrane.result m (subst (In m) c.membranes-choices.ensures i)), (s.inside.0, (c.membranes-choices.ensures ∙ ap (mems_in (heap_of c.args.flat.now)) c.membrane-in-Membrane.ensures, c.requires.room))))))

pub search-returns-in-Some-clause-answers : goal.search-returns-in-Some-clause-answers
search-returns-in-Some-clause-answers t c =
    ends_found (heap_of c.args.flat.now) c.args.head.now c.args.guard.now c.args.items.now c.args.placed.now c.in_ok-found-in-empty.field-0 c.in-Some.found (nothing_left c.args.items.now c.in-empty.len_below) c.in-Some.is c.in_ok-found-in-empty.ensures.some

pub search-returns-in-None-clause-answers : goal.search-returns-in-None-clause-answers
search-returns-in-None-clause-answers t c =
    ends_failed (heap_of c.args.flat.now) c.args.head.now c.args.guard.now c.args.items.now c.args.placed.now c.all.result (nothing_left c.args.items.now c.in-empty.len_below) c.all.ensures (c.in_ok-found-in-empty.ensures.none c.in-None.is)

pub search-returns-in-Atom-clause-answers : goal.search-returns-in-Atom-clause-answers
search-returns-in-Atom-clause-answers t c =
    IfOk-weaker c.try_atoms.result _ _ (λ o w. answers_atom (heap_of c.args.flat.now) c.args.head.now c.args.guard.now c.args.placed.now c.try_atoms.new.placed c.in-Atom.functor c.in-Atom.links c.in-Atom.inside c.args.items.now (take (length c.args.items.now - 1) (drop 1 c.args.items.now)) o (begins_with c.args.items.now c.first-item.result (Atom c.in-Atom.functor c.in-Atom.links c.in-Atom.inside) c.in-len1-up.len_at_least c.first-item.is c.in-Atom.is) w) c.try_atoms.ensures.answers

pub search-returns-in-Typed-clause-answers : goal.search-returns-in-Typed-clause-answers
search-returns-in-Typed-clause-answers t c =
    IfOk-weaker c.search.result _ _ (λ o w. answers_typed (heap_of c.args.flat.now) c.args.head.now c.args.guard.now c.args.placed.now c.search.new.placed c.in-Typed.name c.in-Typed.kind c.in-Typed.link c.in-Typed.inside c.args.items.now (take (length c.args.items.now - 1) (drop 1 c.args.items.now)) o (begins_with c.args.items.now c.first-item.result (Typed c.in-Typed.name c.in-Typed.kind c.in-Typed.link c.in-Typed.inside) c.in-len1-up.len_at_least c.first-item.is c.in-Typed.is) w) c.search.ensures.answers

pub search-returns-in-Membrane-clause-answers : goal.search-returns-in-Membrane-clause-answers
search-returns-in-Membrane-clause-answers t c =
    IfOk-weaker c.try_membranes.result _ _ (λ o w. answers_membrane (heap_of c.args.flat.now) c.args.head.now c.args.guard.now c.args.placed.now c.try_membranes.new.placed c.in-Membrane.inside c.in-Membrane.has_context c.in-Membrane.has_closed_context c.in-Membrane.has_rule_context c.args.items.now (take (length c.args.items.now - 1) (drop 1 c.args.items.now)) o (begins_with c.args.items.now c.first-item.result (Membrane c.in-Membrane.inside c.in-Membrane.has_context c.in-Membrane.has_closed_context c.in-Membrane.has_rule_context) c.in-len1-up.len_at_least c.first-item.is c.in-Membrane.is) w) c.try_membranes.ensures.answers

pub try_atom-returns-in-Some-clause-answers : goal.try_atom-returns-in-Some-clause-answers
try_atom-returns-in-Some-clause-answers t c =
    let refused = (holds_of_item _ c.in_ok-numbers.field-0 c.in-Some.numbers c.in-Some.is c.in_ok-numbers.ensures.some) in
    refused_atom (heap_of c.args.flat.now) c.args.head.now c.args.guard.now c.args.rest.now c.args.functor c.args.placed.now c.place_atom.new.placed c.args.atom c.of_atoms.result c.in-Some.numbers refused.0 c.of_atoms.ensures refused.1

pub try_atom-search-requires : goal.try_atom-search-requires
try_atom-search-requires t c =
    let whole : 3 * length c.args.rest.now + 1 ≡ t = c.decreases in
    let less : 3 * length c.args.rest.now < t = omega (arith, whole) in
    (less, (c.requires.valid, (c.requires.head, (subst (λ (z : Placed). Sits (heap_of c.args.flat.now) c.args.head.now c.args.rest.now z) (sym (c.in_ok-numbers.ensures.none c.in-None.is).0) c.requires.sits, c.requires.room))))

pub try_atom-returns-in-Found-clause-answers : goal.try_atom-returns-in-Found-clause-answers
try_atom-returns-in-Found-clause-answers t c =
    with_found (heap_of c.args.flat.now) c.args.head.now c.args.guard.now c.args.rest.now (λ z. Allowed (heap_of c.args.flat.now) c.args.head.now z c.args.functor) with_atom c.args.placed.now c.args.atom c.place_atom.new.placed c.search.new.placed c.in_ok-found.field-0 c.in-Found.found (c.in_ok-numbers.ensures.none c.in-None.is).0 (c.in_ok-numbers.ensures.none c.in-None.is).1 c.in-Found.is c.in_ok-found.ensures.answers

pub try_atom-returns-in-Failed-clause-answers : goal.try_atom-returns-in-Failed-clause-answers
try_atom-returns-in-Failed-clause-answers t c =
    let so = left_so (heap_of c.args.flat.now) c.args.head.now c.args.guard.now c.args.rest.now (λ z. Allowed (heap_of c.args.flat.now) c.args.head.now z c.args.functor) with_atom c.args.placed.now c.args.atom c.place_atom.new.placed c.search.new.placed c.in_ok-found.field-0 c.in-Failed.failed (c.in_ok-numbers.ensures.none c.in-None.is).0 c.in-Failed.is c.in_ok-found.ensures.answers in
    with_failed (heap_of c.args.flat.now) c.args.head.now c.args.guard.now c.args.rest.now (λ z. Allowed (heap_of c.args.flat.now) c.args.head.now z c.args.functor) with_atom c.args.placed.now c.args.atom c.place_atom.new.placed c.search.new.placed (record c.search.new.placed { atoms = c.pop.new.self }) c.in_ok-found.field-0 c.in-Failed.failed (c.in_ok-numbers.ensures.none c.in-None.is).0 c.in-Failed.is (atom_back c.search.new.placed c.args.placed.now c.args.atom c.pop.new.self c.pop.result so c.pop.ensures) c.in_ok-found.ensures.answers

pub try_atoms-loop-choice-init : goal.try_atoms-loop-choice-init
try_atoms-loop-choice-init t c =
    record { same = refl; room = c.requires.room; inside = c.of_membrane-reasons.ensures; none = λ a i. absurd i }

pub try_atoms-try_atom-requires : goal.try_atoms-try_atom-requires
try_atoms-try_atom-requires t c =
    let whole : 3 * length c.args.rest.now + 2 ≡ t = c.decreases in
    let less : 3 * length c.args.rest.now + 1 < t = omega (arith, whole) in
    (less, (c.requires.valid, (c.requires.head, (subst (λ (z : Placed). Sits (heap_of c.args.flat.now) c.args.head.now c.args.rest.now (with_atom z (slice_index_or c.args.choices.now c.loop-choice.choice-index 0))) (sym c.loop-choice.invariant.same) (c.requires.sits (slice_index_or c.args.choices.now c.loop-choice.choice-index 0) (item_in c.args.choices.now c.loop-choice.choice-index c.loop-choice-test.true)), c.loop-choice.invariant.room))))

pub try_atoms-returns-in-Found-clause-answers : goal.try_atoms-returns-in-Found-clause-answers
try_atoms-returns-in-Found-clause-answers t c =
    one_found (heap_of c.args.flat.now) c.args.head.now c.args.guard.now c.args.rest.now (λ z. Allowed (heap_of c.args.flat.now) c.args.head.now z c.args.functor) with_atom (atoms_inside (heap_of c.args.flat.now) c.args.inside) c.args.choices.now c.args.placed.now c.loop-choice.placed c.try_atom.new.placed c.loop-choice.invariant.same c.loop-choice.choice-index c.in_ok-found.field-0 c.in_ok-found.ensures.answers c.loop-choice.reasons c.in-Found.found c.loop-choice-test.true c.requires.choices c.loop-choice.invariant.none c.in-Found.is

pub try_atoms-returns-then-not-has-clause-answers : goal.try_atoms-returns-then-not-has-clause-answers
try_atoms-returns-then-not-has-clause-answers t c =
    one_past (heap_of c.args.flat.now) c.args.head.now c.args.guard.now c.args.rest.now (λ z. Allowed (heap_of c.args.flat.now) c.args.head.now z c.args.functor) with_atom (atoms_inside (heap_of c.args.flat.now) c.args.inside) c.args.choices.now c.args.placed.now c.loop-choice.placed c.try_atom.new.placed c.loop-choice.invariant.same c.loop-choice.choice-index c.in_ok-found.field-0 c.in_ok-found.ensures.answers c.in-Failed.failed c.in-Failed.is
    (λ z b. past_atom c.in-Failed.failed c.args.placed.now z (slice_index_or c.args.choices.now c.loop-choice.choice-index 0) b (subst (λ n. IsAmong n c.in-Failed.failed.atoms → ⊥) c.len-number.ensures (port_differs c.has.ensures.1 c.if-not-has.true)))

pub try_atoms-loop-choice-preserved : goal.try_atoms-loop-choice-preserved
try_atoms-loop-choice-preserved t c =
    let next = one_failed (heap_of c.args.flat.now) c.args.head.now c.args.guard.now c.args.rest.now (λ z. Allowed (heap_of c.args.flat.now) c.args.head.now z c.args.functor) with_atom (atoms_inside (heap_of c.args.flat.now) c.args.inside) c.args.choices.now c.args.placed.now c.loop-choice.placed c.try_atom.new.placed c.loop-choice.invariant.same c.loop-choice.choice-index c.in_ok-found.field-0 c.in_ok-found.ensures.answers c.loop-choice.reasons c.in-Failed.failed c.with-reasons.result c.loop-choice-test.true c.in-Failed.is c.with-reasons.ensures.these c.with-reasons.ensures.those
    (λ z. agrees_atom c.with-reasons.result c.args.placed.now z (slice_index_or c.args.choices.now c.loop-choice.choice-index 0)) c.loop-choice.invariant.none in
    record { same = next.0; room = c.in_ok-found.ensures.room; inside = λ k e. within_on (These (bit k)) c.loop-choice.reasons.membranes c.with-reasons.result.membranes (c.loop-choice.invariant.inside k e) c.with-reasons.ensures.these.1; none = next.1 }

pub try_atoms-returns-clause-answers : goal.try_atoms-returns-clause-answers
try_atoms-returns-clause-answers t c =
    none_all (heap_of c.args.flat.now) c.args.head.now c.args.guard.now c.args.rest.now (λ z. Allowed (heap_of c.args.flat.now) c.args.head.now z c.args.functor) with_atom (atoms_inside (heap_of c.args.flat.now) c.args.inside) c.args.choices.now c.args.placed.now c.loop-choice.reasons c.loop-choice.choice-index c.loop-choice.placed c.loop-choice-test.false c.loop-choice.invariant.same c.requires.choices
    (λ z g. ap (atoms_in (heap_of c.args.flat.now)) (same_inside c.loop-choice.reasons c.args.placed.now z c.args.inside c.loop-choice.invariant.inside c.requires.inside g)) c.loop-choice.invariant.none

pub try_membrane-returns-in-Some-clause-answers : goal.try_membrane-returns-in-Some-clause-answers
try_membrane-returns-in-Some-clause-answers t c =
    let refused = (holds_of_item _ c.in_ok-numbers.field-0 c.in-Some.numbers c.in-Some.is c.in_ok-numbers.ensures.some) in
    refused_membrane (heap_of c.args.flat.now) c.args.head.now c.args.guard.now c.args.rest.now c.args.placed.now c.place_membrane.new.placed c.args.membrane c.of_membranes.result c.in-Some.numbers c.requires.sits refused.0 c.of_membranes.ensures refused.1

pub try_membrane-search-requires : goal.try_membrane-search-requires
try_membrane-search-requires t c =
    let whole : 3 * length c.args.rest.now + 1 ≡ t = c.decreases in
    let less : 3 * length c.args.rest.now < t = omega (arith, whole) in
    (less, (c.requires.valid, (c.requires.head, (subst (λ (z : Placed). Sits (heap_of c.args.flat.now) c.args.head.now c.args.rest.now z) (sym (c.in_ok-numbers.ensures.none c.in-None.is).0) c.requires.sits, c.requires.room))))

pub try_membrane-returns-in-Found-clause-answers : goal.try_membrane-returns-in-Found-clause-answers
try_membrane-returns-in-Found-clause-answers t c =
    with_found (heap_of c.args.flat.now) c.args.head.now c.args.guard.now c.args.rest.now IsNew with_membrane c.args.placed.now c.args.membrane c.place_membrane.new.placed c.search.new.placed c.in_ok-found.field-0 c.in-Found.found (c.in_ok-numbers.ensures.none c.in-None.is).0 (c.in_ok-numbers.ensures.none c.in-None.is).1 c.in-Found.is c.in_ok-found.ensures.answers

pub try_membrane-returns-in-Failed-clause-answers : goal.try_membrane-returns-in-Failed-clause-answers
try_membrane-returns-in-Failed-clause-answers t c =
    let so = left_so (heap_of c.args.flat.now) c.args.head.now c.args.guard.now c.args.rest.now IsNew with_membrane c.args.placed.now c.args.membrane c.place_membrane.new.placed c.search.new.placed c.in_ok-found.field-0 c.in-Failed.failed (c.in_ok-numbers.ensures.none c.in-None.is).0 c.in-Failed.is c.in_ok-found.ensures.answers in
    with_failed (heap_of c.args.flat.now) c.args.head.now c.args.guard.now c.args.rest.now IsNew with_membrane c.args.placed.now c.args.membrane c.place_membrane.new.placed c.search.new.placed (record c.search.new.placed { membranes = c.pop.new.self }) c.in_ok-found.field-0 c.in-Failed.failed (c.in_ok-numbers.ensures.none c.in-None.is).0 c.in-Failed.is (membrane_back c.search.new.placed c.args.placed.now c.args.membrane c.pop.new.self c.pop.result so c.pop.ensures) c.in_ok-found.ensures.answers

pub try_membranes-loop-choice-init : goal.try_membranes-loop-choice-init
try_membranes-loop-choice-init t c =
    record { same = refl; room = c.requires.room; inside = c.of_membrane-reasons.ensures; none = λ a i. absurd i }

pub try_membranes-try_membrane-requires : goal.try_membranes-try_membrane-requires
try_membranes-try_membrane-requires t c =
    let whole : 3 * length c.args.rest.now + 2 ≡ t = c.decreases in
    let less : 3 * length c.args.rest.now + 1 < t = omega (arith, whole) in
    (less, (c.requires.valid, (c.requires.head, (subst (λ (z : Placed). Sits (heap_of c.args.flat.now) c.args.head.now c.args.rest.now (with_membrane z (slice_index_or c.args.choices.now c.loop-choice.choice-index 0))) (sym c.loop-choice.invariant.same) (c.requires.sits (slice_index_or c.args.choices.now c.loop-choice.choice-index 0) (item_in c.args.choices.now c.loop-choice.choice-index c.loop-choice-test.true)), c.loop-choice.invariant.room))))

pub try_membranes-returns-in-Found-clause-answers : goal.try_membranes-returns-in-Found-clause-answers
try_membranes-returns-in-Found-clause-answers t c =
    one_found (heap_of c.args.flat.now) c.args.head.now c.args.guard.now c.args.rest.now IsNew with_membrane (membranes_inside (heap_of c.args.flat.now) c.args.inside) c.args.choices.now c.args.placed.now c.loop-choice.placed c.try_membrane.new.placed c.loop-choice.invariant.same c.loop-choice.choice-index c.in_ok-found.field-0 c.in_ok-found.ensures.answers c.loop-choice.reasons c.in-Found.found c.loop-choice-test.true c.requires.choices c.loop-choice.invariant.none c.in-Found.is

pub try_membranes-returns-then-not-has-clause-answers : goal.try_membranes-returns-then-not-has-clause-answers
try_membranes-returns-then-not-has-clause-answers t c =
    one_past (heap_of c.args.flat.now) c.args.head.now c.args.guard.now c.args.rest.now IsNew with_membrane (membranes_inside (heap_of c.args.flat.now) c.args.inside) c.args.choices.now c.args.placed.now c.loop-choice.placed c.try_membrane.new.placed c.loop-choice.invariant.same c.loop-choice.choice-index c.in_ok-found.field-0 c.in_ok-found.ensures.answers c.in-Failed.failed c.in-Failed.is
    (λ z b. past_membrane c.in-Failed.failed c.args.placed.now z (slice_index_or c.args.choices.now c.loop-choice.choice-index 0) b (subst (λ n. IsAmong n c.in-Failed.failed.membranes → ⊥) c.len-number.ensures (port_differs c.has.ensures.1 c.if-not-has.true)))

pub try_membranes-loop-choice-preserved : goal.try_membranes-loop-choice-preserved
try_membranes-loop-choice-preserved t c =
    let next = one_failed (heap_of c.args.flat.now) c.args.head.now c.args.guard.now c.args.rest.now IsNew with_membrane (membranes_inside (heap_of c.args.flat.now) c.args.inside) c.args.choices.now c.args.placed.now c.loop-choice.placed c.try_membrane.new.placed c.loop-choice.invariant.same c.loop-choice.choice-index c.in_ok-found.field-0 c.in_ok-found.ensures.answers c.loop-choice.reasons c.in-Failed.failed c.with-reasons.result c.loop-choice-test.true c.in-Failed.is c.with-reasons.ensures.these c.with-reasons.ensures.those
    (λ z. agrees_membrane c.with-reasons.result c.args.placed.now z (slice_index_or c.args.choices.now c.loop-choice.choice-index 0)) c.loop-choice.invariant.none in
    record { same = next.0; room = c.in_ok-found.ensures.room; inside = λ k e. within_on (These (bit k)) c.loop-choice.reasons.membranes c.with-reasons.result.membranes (c.loop-choice.invariant.inside k e) c.with-reasons.ensures.these.1; none = next.1 }

pub try_membranes-returns-clause-answers : goal.try_membranes-returns-clause-answers
try_membranes-returns-clause-answers t c =
    none_all (heap_of c.args.flat.now) c.args.head.now c.args.guard.now c.args.rest.now IsNew with_membrane (membranes_inside (heap_of c.args.flat.now) c.args.inside) c.args.choices.now c.args.placed.now c.loop-choice.reasons c.loop-choice.choice-index c.loop-choice.placed c.loop-choice-test.false c.loop-choice.invariant.same c.requires.choices
    (λ z g. ap (mems_in (heap_of c.args.flat.now)) (same_inside c.loop-choice.reasons c.args.placed.now z c.args.inside c.loop-choice.invariant.inside c.requires.inside g)) c.loop-choice.invariant.none

pub try_atom-place_atom-requires-clause-atom : goal.try_atom-place_atom-requires-clause-atom
try_atom-place_atom-requires-clause-atom t c = made_there (heap_of c.args.flat.now) c.args.head.now c.args.rest.now c.args.placed.now c.args.atom c.requires.sits

pub try_atom-place_atom-requires-clause-atoms : goal.try_atom-place_atom-requires-clause-atoms
try_atom-place_atom-requires-clause-atoms t c = before_there (heap_of c.args.flat.now) c.args.head.now c.args.rest.now c.args.placed.now c.args.atom c.requires.sits

pub try_atom-place_atom-requires-clause-few : goal.try_atom-place_atom-requires-clause-few
try_atom-place_atom-requires-clause-few t c = room_for (heap_of c.args.flat.now) c.args.head.now c.args.rest.now c.args.placed.now c.args.atom c.requires.sits

pub try_membrane-place_membrane-requires-clause-membrane : goal.try_membrane-place_membrane-requires-clause-membrane
try_membrane-place_membrane-requires-clause-membrane t c = home_there (heap_of c.args.flat.now) c.args.head.now c.args.rest.now c.args.placed.now c.args.membrane c.requires.sits
