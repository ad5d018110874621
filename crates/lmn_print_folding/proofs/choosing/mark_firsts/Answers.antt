use Rattle.std.proofs.Common.{subst}
use Rattle.std.specs.Option.{option_map}
use Rattle.lmn_store_heap.specs.Heap.{IsAtom}
use Rattle.lmn_print_plain.proofs.StoredLemmas.{atoms_fewer}
use Rattle.std.proofs.Common.{inl, refl}
use Rattle.lmn_print_folding.proofs.FirstLemmas.{FirstsLeft, firsts_first, firsts_before, firsts_next, firsts_last}
use Rattle.lmn_print_folding.proofs.OwnMarks.{atom_same, changes_none, changes_more}
use Rattle.lmn_print_folding.proofs.PassEnds.{all_atoms, all_in_order, first_list, next_list, next_there, none_left}
use Rattle.lmn_print_folding.proofs.choosing.mark_firsts.Goals as goal
use Rattle.lmn_base.proofs.Lists.{holds_of_item}

pub first_printed-next-requires : goal.first_printed-next-requires
first_printed-next-requires g c = c.requires.valid.tree

pub loop-next-init : goal.loop-next-init
loop-next-init g c =
    let s = g.S.LinkStore.heap c.args.store.now in
    let next = option_map g.S.LinkStore.atom_id c.first_printed-next.result in
    let list = first_list s c.requires.valid c.root-root.ensures.few next c.first_printed-next.ensures.list in
    record {
      valid = c.requires.valid;
      place = next_there g.S.LinkStore.atom_id s s (changes_none s) c.first_printed-next.result c.first_printed-next.ensures.place;
      firsts = firsts_first s c.requires.unmarked (all_atoms s) (all_in_order s c.requires.valid c.root-root.ensures.few) next list;
    }

pub mark_if_first-requires-clause-unmarked : goal.mark_if_first-requires-clause-unmarked
mark_if_first-requires-clause-unmarked g c =
    let s = g.S.LinkStore.heap c.args.store.now in
    let t = g.S.LinkStore.heap c.loop-next.store in
    let before = subst (λ o. FirstsLeft s t (all_atoms s) (option_map g.S.LinkStore.atom_id o)) c.in-Some.is c.loop-next.invariant.firsts in
    before.left (g.S.LinkStore.atom_id c.in-Some.atom) (inl refl)

pub mark_if_first-requires-clause-before : goal.mark_if_first-requires-clause-before
mark_if_first-requires-clause-before g c =
    let s = g.S.LinkStore.heap c.args.store.now in
    let t = g.S.LinkStore.heap c.loop-next.store in
    let there = holds_of_item (λ b. IsAtom s (g.S.LinkStore.atom_id b)) c.loop-next.next c.in-Some.atom c.in-Some.is c.loop-next.invariant.place in
    let before = subst (λ o. FirstsLeft s t (all_atoms s) (option_map g.S.LinkStore.atom_id o)) c.in-Some.is c.loop-next.invariant.firsts in
    firsts_before s t c.requires.valid (all_atoms s) (all_in_order s c.requires.valid c.root-root.ensures.few) (g.S.LinkStore.atom_id c.in-Some.atom) there before

pub mark_if_first-requires-clause-atom : goal.mark_if_first-requires-clause-atom
mark_if_first-requires-clause-atom g c =
    let s = g.S.LinkStore.heap c.args.store.now in
    atom_same s (g.S.LinkStore.heap c.loop-next.store) c.loop-next.invariant.firsts.marks (g.S.LinkStore.atom_id c.in-Some.atom)
    (holds_of_item (λ b. IsAtom s (g.S.LinkStore.atom_id b)) c.loop-next.next c.in-Some.atom c.in-Some.is c.loop-next.invariant.place)

pub next_printed-next-requires : goal.next_printed-next-requires
next_printed-next-requires g c =
    let s = g.S.LinkStore.heap c.args.store.now in
    let t = g.S.LinkStore.heap c.loop-next.store in
    let u = g.S.LinkStore.heap c.mark_if_first.new.store in
    let b = g.S.LinkStore.atom_id c.in-Some.atom in
    let there = holds_of_item (λ b. IsAtom s (g.S.LinkStore.atom_id b)) c.loop-next.next c.in-Some.atom c.in-Some.is c.loop-next.invariant.place in
    let before = subst (λ o. FirstsLeft s t (all_atoms s) (option_map g.S.LinkStore.atom_id o)) c.in-Some.is c.loop-next.invariant.firsts in
    let r = changes_more s t u before.marks c.mark_if_first.ensures.first.marks in
    record { tree = c.mark_if_first.ensures.valid.tree; place = c.mark_if_first.ensures.valid.settled.atoms b (atom_same s u r b there) }

pub loop-next-preserved : goal.loop-next-preserved
loop-next-preserved g c =
    let s = g.S.LinkStore.heap c.args.store.now in
    let t = g.S.LinkStore.heap c.loop-next.store in
    let u = g.S.LinkStore.heap c.mark_if_first.new.store in
    let b = g.S.LinkStore.atom_id c.in-Some.atom in
    let there = holds_of_item (λ b. IsAtom s (g.S.LinkStore.atom_id b)) c.loop-next.next c.in-Some.atom c.in-Some.is c.loop-next.invariant.place in
    let before = subst (λ o. FirstsLeft s t (all_atoms s) (option_map g.S.LinkStore.atom_id o)) c.in-Some.is c.loop-next.invariant.firsts in
    let r = changes_more s t u before.marks c.mark_if_first.ensures.first.marks in
    let next = option_map g.S.LinkStore.atom_id c.next_printed-next.result in
    let list = next_list s u c.requires.valid c.root-root.ensures.few r b next c.next_printed-next.ensures.list in
    record {
      valid = c.mark_if_first.ensures.valid;
      place = next_there g.S.LinkStore.atom_id s u r c.next_printed-next.result c.next_printed-next.ensures.place;
      firsts = firsts_next s t c.requires.valid (all_atoms s) (all_in_order s c.requires.valid c.root-root.ensures.few) b there before u next list c.mark_if_first.ensures.first;
    }

pub loop-next-smaller : goal.loop-next-smaller
loop-next-smaller g c =
    let s = g.S.LinkStore.heap c.args.store.now in
    let t = g.S.LinkStore.heap c.loop-next.store in
    let u = g.S.LinkStore.heap c.mark_if_first.new.store in
    let b = g.S.LinkStore.atom_id c.in-Some.atom in
    let before = subst (λ o. FirstsLeft s t (all_atoms s) (option_map g.S.LinkStore.atom_id o)) c.in-Some.is c.loop-next.invariant.firsts in
    let r = changes_more s t u before.marks c.mark_if_first.ensures.first.marks in
    let list = next_list s u c.requires.valid c.root-root.ensures.few r b (option_map g.S.LinkStore.atom_id c.next_printed-next.result) c.next_printed-next.ensures.list in
    atoms_fewer g.S.LinkStore.atom_id c.in-Some.atom c.loop-next.next c.next_printed-next.result (all_atoms s) c.in-Some.is list

pub returns-clause-valid : goal.returns-clause-valid
returns-clause-valid g c = c.loop-next.invariant.valid

pub returns-clause-marks : goal.returns-clause-marks
returns-clause-marks g c = c.loop-next.invariant.firsts.marks

pub returns-clause-firsts : goal.returns-clause-firsts
returns-clause-firsts g c =
    let s = g.S.LinkStore.heap c.args.store.now in
    let t = g.S.LinkStore.heap c.loop-next.store in
    let none = none_left g.S.LinkStore.atom_id c.loop-next.next c.in_default.not-Some in
    firsts_last s t (all_atoms s) (subst (FirstsLeft s t (all_atoms s)) none c.loop-next.invariant.firsts)
