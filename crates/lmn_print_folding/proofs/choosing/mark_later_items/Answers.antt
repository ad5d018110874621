use Rattle.std.proofs.Common.{subst}
use Rattle.std.specs.Option.{option_map}
use Rattle.lmn_store_heap.specs.Heap.{IsAtom}
use Rattle.lmn_print_plain.proofs.StoredLemmas.{atoms_fewer}
use Rattle.lmn_print_folding.proofs.OwnMarks.{atom_same, changes_none, changes_more}
use Rattle.lmn_print_folding.proofs.PassEnds.{all_atoms, first_list, next_list, next_there, none_left, Choosing, choosing_first, choosing_next, choosing_last, later_marks}
use Rattle.lmn_print_folding.proofs.choosing.mark_later_items.Goals as goal
use Rattle.lmn_base.proofs.Lists.{holds_of_item}

pub first_printed-next-requires : goal.first_printed-next-requires
first_printed-next-requires g c = c.requires.valid.tree

pub loop-next-init : goal.loop-next-init
loop-next-init g c =
    let s = g.S.LinkStore.heap c.args.store.now in
    let next = option_map g.S.LinkStore.atom_id c.first_printed-next.result in
    let list = first_list s c.requires.valid c.root-root.ensures.few next c.first_printed-next.ensures.list in
    record {
      valid = c.requires.valid;
      place = next_there g.S.LinkStore.atom_id s s (changes_none s) c.first_printed-next.result c.first_printed-next.ensures.place;
      items = choosing_first s c.requires.valid c.root-root.ensures.few c.requires.shown next list;
    }

pub mark_if_later-requires-clause-atom : goal.mark_if_later-requires-clause-atom
mark_if_later-requires-clause-atom g c =
    let s = g.S.LinkStore.heap c.args.store.now in
    atom_same s (g.S.LinkStore.heap c.loop-next.store) c.loop-next.invariant.items.marks (g.S.LinkStore.atom_id c.in-Some.atom)
    (holds_of_item (λ b. IsAtom s (g.S.LinkStore.atom_id b)) c.loop-next.next c.in-Some.atom c.in-Some.is c.loop-next.invariant.place)

pub next_printed-next-requires : goal.next_printed-next-requires
next_printed-next-requires g c =
    let s = g.S.LinkStore.heap c.args.store.now in
    let t = g.S.LinkStore.heap c.loop-next.store in
    let u = g.S.LinkStore.heap c.mark_if_later.new.store in
    let b = g.S.LinkStore.atom_id c.in-Some.atom in
    let there = holds_of_item (λ b. IsAtom s (g.S.LinkStore.atom_id b)) c.loop-next.next c.in-Some.atom c.in-Some.is c.loop-next.invariant.place in
    let before = subst (λ o. Choosing s t (option_map g.S.LinkStore.atom_id o)) c.in-Some.is c.loop-next.invariant.items in
    let r = changes_more s t u before.marks (later_marks t u b c.mark_if_later.ensures.later) in
    record { tree = c.mark_if_later.ensures.valid.tree; place = c.mark_if_later.ensures.valid.settled.atoms b (atom_same s u r b there) }

pub loop-next-preserved : goal.loop-next-preserved
loop-next-preserved g c =
    let s = g.S.LinkStore.heap c.args.store.now in
    let t = g.S.LinkStore.heap c.loop-next.store in
    let u = g.S.LinkStore.heap c.mark_if_later.new.store in
    let b = g.S.LinkStore.atom_id c.in-Some.atom in
    let there = holds_of_item (λ b. IsAtom s (g.S.LinkStore.atom_id b)) c.loop-next.next c.in-Some.atom c.in-Some.is c.loop-next.invariant.place in
    let before = subst (λ o. Choosing s t (option_map g.S.LinkStore.atom_id o)) c.in-Some.is c.loop-next.invariant.items in
    let r = changes_more s t u before.marks (later_marks t u b c.mark_if_later.ensures.later) in
    let next = option_map g.S.LinkStore.atom_id c.next_printed-next.result in
    let list = next_list s u c.requires.valid c.root-root.ensures.few r b next c.next_printed-next.ensures.list in
    record {
      valid = c.mark_if_later.ensures.valid;
      place = next_there g.S.LinkStore.atom_id s u r c.next_printed-next.result c.next_printed-next.ensures.place;
      items = choosing_next s t u c.requires.valid c.root-root.ensures.few b there before next list c.mark_if_later.ensures.later;
    }

pub loop-next-smaller : goal.loop-next-smaller
loop-next-smaller g c =
    let s = g.S.LinkStore.heap c.args.store.now in
    let t = g.S.LinkStore.heap c.loop-next.store in
    let u = g.S.LinkStore.heap c.mark_if_later.new.store in
    let b = g.S.LinkStore.atom_id c.in-Some.atom in
    let before = subst (λ o. Choosing s t (option_map g.S.LinkStore.atom_id o)) c.in-Some.is c.loop-next.invariant.items in
    let r = changes_more s t u before.marks (later_marks t u b c.mark_if_later.ensures.later) in
    let list = next_list s u c.requires.valid c.root-root.ensures.few r b (option_map g.S.LinkStore.atom_id c.next_printed-next.result) c.next_printed-next.ensures.list in
    atoms_fewer g.S.LinkStore.atom_id c.in-Some.atom c.loop-next.next c.next_printed-next.result (all_atoms s) c.in-Some.is list

pub returns-clause-valid : goal.returns-clause-valid
returns-clause-valid g c = c.loop-next.invariant.valid

pub returns-clause-marks : goal.returns-clause-marks
returns-clause-marks g c = c.loop-next.invariant.items.marks

pub returns-clause-marked : goal.returns-clause-marked
returns-clause-marked g c = λ m i.
    let s = g.S.LinkStore.heap c.args.store.now in
    let t = g.S.LinkStore.heap c.loop-next.store in
    let none = none_left g.S.LinkStore.atom_id c.loop-next.next c.in_default.not-Some in
    choosing_last s t c.requires.valid c.root-root.ensures.few (subst (Choosing s t) none c.loop-next.invariant.items) m
