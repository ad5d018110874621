use Rattle.std.proofs.Common.{Some, None, sym, ap, subst, ◌∙◌}
use Rattle.lmn_store_heap.specs.Heap.{port_id}
use Rattle.lmn_schedule_loading.specs.Joining.{MayMeet, met, flipped}
use Rattle.lmn_schedule_loading.proofs.JoiningSteps.{held_is, held_next}
use Rattle.lmn_schedule_loading.proofs.joining.meet.Goals as goal

pub join-requires-clause-a : goal.join-requires-clause-a
join-requires-clause-a g c =
    let may = subst (λ o. MayMeet (g.S.LinkStore.heap c.args.store.now) o (port_id g.S.LinkStore.atom_id c.args.port)) (held_is g.S.LinkStore.atom_id c.args.held.now c.args.class (Some c.in-Some.other) c.requires.class (c.at.ensures ∙ ap (λ o. Some o) c.in-Some.is)) c.requires.may in
    may.0.0

pub join-requires-clause-b : goal.join-requires-clause-b
join-requires-clause-b g c =
    let may = subst (λ o. MayMeet (g.S.LinkStore.heap c.args.store.now) o (port_id g.S.LinkStore.atom_id c.args.port)) (held_is g.S.LinkStore.atom_id c.args.held.now c.args.class (Some c.in-Some.other) c.requires.class (c.at.ensures ∙ ap (λ o. Some o) c.in-Some.is)) c.requires.may in
    may.1.0

pub join-requires-clause-i : goal.join-requires-clause-i
join-requires-clause-i g c =
    let may = subst (λ o. MayMeet (g.S.LinkStore.heap c.args.store.now) o (port_id g.S.LinkStore.atom_id c.args.port)) (held_is g.S.LinkStore.atom_id c.args.held.now c.args.class (Some c.in-Some.other) c.requires.class (c.at.ensures ∙ ap (λ o. Some o) c.in-Some.is)) c.requires.may in
    may.0.1

pub join-requires-clause-j : goal.join-requires-clause-j
join-requires-clause-j g c =
    let may = subst (λ o. MayMeet (g.S.LinkStore.heap c.args.store.now) o (port_id g.S.LinkStore.atom_id c.args.port)) (held_is g.S.LinkStore.atom_id c.args.held.now c.args.class (Some c.in-Some.other) c.requires.class (c.at.ensures ∙ ap (λ o. Some o) c.in-Some.is)) c.requires.may in
    may.1.1

pub join-requires-clause-differ : goal.join-requires-clause-differ
join-requires-clause-differ g c =
    let may = subst (λ o. MayMeet (g.S.LinkStore.heap c.args.store.now) o (port_id g.S.LinkStore.atom_id c.args.port)) (held_is g.S.LinkStore.atom_id c.args.held.now c.args.class (Some c.in-Some.other) c.requires.class (c.at.ensures ∙ ap (λ o. Some o) c.in-Some.is)) c.requires.may in
    may.2

pub returns-in-Some-clause-heap : goal.returns-in-Some-clause-heap
returns-in-Some-clause-heap g c = c.join.ensures ∙ ap (λ o. met (g.S.LinkStore.heap c.args.store.now) o (port_id g.S.LinkStore.atom_id c.args.port)) (sym (held_is g.S.LinkStore.atom_id c.args.held.now c.args.class (Some c.in-Some.other) c.requires.class (c.at.ensures ∙ ap (λ o. Some o) c.in-Some.is)))

pub returns-in-Some-clause-held : goal.returns-in-Some-clause-held
returns-in-Some-clause-held g c =
    held_next g.S.LinkStore.atom_id c.args.held.now c.set.new.self c.args.class None (port_id g.S.LinkStore.atom_id c.args.port) c.requires.class c.set.ensures
    (ap (λ o. flipped o (port_id g.S.LinkStore.atom_id c.args.port)) (sym (held_is g.S.LinkStore.atom_id c.args.held.now c.args.class (Some c.in-Some.other) c.requires.class (c.at.ensures ∙ ap (λ o. Some o) c.in-Some.is))))

pub returns-in-None-clause-heap : goal.returns-in-None-clause-heap
returns-in-None-clause-heap g c = ap (λ o. met (g.S.LinkStore.heap c.args.store.now) o (port_id g.S.LinkStore.atom_id c.args.port)) (sym (held_is g.S.LinkStore.atom_id c.args.held.now c.args.class None c.requires.class (c.at.ensures ∙ ap (λ o. Some o) c.in-None.is)))

pub returns-in-None-clause-held : goal.returns-in-None-clause-held
returns-in-None-clause-held g c =
    held_next g.S.LinkStore.atom_id c.args.held.now c.set-in-None.new.self c.args.class (Some c.args.port) (port_id g.S.LinkStore.atom_id c.args.port) c.requires.class c.set-in-None.ensures
    (ap (λ o. flipped o (port_id g.S.LinkStore.atom_id c.args.port)) (sym (held_is g.S.LinkStore.atom_id c.args.held.now c.args.class None c.requires.class (c.at.ensures ∙ ap (λ o. Some o) c.in-None.is))))
