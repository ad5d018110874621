use Rattle.std.proofs.Common.{◌≡◌, Some, true}
use Rattle.std.specs.Option.{option_map}
use Rattle.lmn_print_folding.specs.Marks.{is_item}
use Rattle.lmn_store_heap.specs.Heap.{home_of}
use Rattle.lmn_print_folding.specs.Chosen.{items_in}
use Rattle.lmn_print_plain.proofs.StoredLemmas.{atom_at_home, atoms_fewer}
use Rattle.lmn_print.proofs.ItemRows.{item_here, items_end, items_first, items_next}
use Rattle.lmn_print.proofs.tree.FoldedItemsAtomWriter.add_atoms.Goals as goal
use Rattle.lmn_base.proofs.Lists.{holds_of_item}

pub loop-next-init : goal.loop-next-init
loop-next-init g c = record {
  due = λ texts are. items_first c.args.names.now (g.S.LinkStore.heap c.args.store.now) c.args.between.now (option_map g.S.LinkStore.atom_id c.first_item-next.result) (g.S.LinkStore.mem_id c.args.mem) texts _ c.first_item-next.ensures.list are;
  there = c.first_item-next.ensures.home;
  item = c.first_item-next.ensures.item;
}

pub add_item-requires-clause-valid : goal.add_item-requires-clause-valid
add_item-requires-clause-valid g c = c.requires.texts.1.0

pub add_item-requires-clause-atom : goal.add_item-requires-clause-atom
add_item-requires-clause-atom g c =
    atom_at_home (g.S.LinkStore.heap c.args.store.now) (g.S.LinkStore.atom_id c.in-Some.item) (g.S.LinkStore.mem_id c.args.mem)
    (holds_of_item (λ a. home_of (g.S.LinkStore.heap c.args.store.now) (g.S.LinkStore.atom_id a) ≡ Some (g.S.LinkStore.mem_id c.args.mem)) c.loop-next.next c.in-Some.item c.in-Some.is c.loop-next.invariant.there)

pub add_item-requires-clause-item : goal.add_item-requires-clause-item
add_item-requires-clause-item g c = holds_of_item (λ a. is_item (g.S.LinkStore.heap c.args.store.now) (g.S.LinkStore.atom_id a) ≡ true) c.loop-next.next c.in-Some.item c.in-Some.is c.loop-next.invariant.item

pub add_item-requires-clause-printed : goal.add_item-requires-clause-printed
add_item-requires-clause-printed g c =
    let h = g.S.LinkStore.heap c.args.store.now in
    item_here c.args.names.now h g.S.LinkStore.atom_id c.args.between.now c.loop-next.any c.in-Some.item c.loop-next.next (items_in h (g.S.LinkStore.mem_id c.args.mem)) _ _ _ c.in-Some.is
    (c.loop-next.invariant.due c.requires.texts.0 c.requires.texts.1)

pub next_item-next-requires-clause-home : goal.next_item-next-requires-clause-home
next_item-next-requires-clause-home g c =
    holds_of_item (λ a. home_of (g.S.LinkStore.heap c.args.store.now) (g.S.LinkStore.atom_id a) ≡ Some (g.S.LinkStore.mem_id c.args.mem)) c.loop-next.next c.in-Some.item c.in-Some.is c.loop-next.invariant.there

pub next_item-next-requires-clause-item : goal.next_item-next-requires-clause-item
next_item-next-requires-clause-item g c = holds_of_item (λ a. is_item (g.S.LinkStore.heap c.args.store.now) (g.S.LinkStore.atom_id a) ≡ true) c.loop-next.next c.in-Some.item c.in-Some.is c.loop-next.invariant.item

pub loop-next-preserved : goal.loop-next-preserved
loop-next-preserved g c =
    let h = g.S.LinkStore.heap c.args.store.now in
    let m = g.S.LinkStore.mem_id c.args.mem in
    record {
      due = λ texts are. items_next c.args.names.now h g.S.LinkStore.atom_id c.args.between.now c.loop-next.any c.in-Some.item c.loop-next.next c.next_item-next.result (items_in h m) _ _ _ _ _ c.in-Some.is c.next_item-next.ensures.list
          (c.loop-next.invariant.due texts are) c.add_between.ensures c.add_item.ensures;
      there = c.next_item-next.ensures.home;
      item = c.next_item-next.ensures.item;
    }

pub loop-next-smaller : goal.loop-next-smaller
loop-next-smaller g c =
    let h = g.S.LinkStore.heap c.args.store.now in
    atoms_fewer g.S.LinkStore.atom_id c.in-Some.item c.loop-next.next c.next_item-next.result (items_in h (g.S.LinkStore.mem_id c.args.mem)) c.in-Some.is c.next_item-next.ensures.list

pub returns : goal.returns
returns g c = λ texts are.
    items_end c.args.names.now (g.S.LinkStore.heap c.args.store.now) g.S.LinkStore.atom_id c.args.between.now c.loop-next.any c.loop-next.next (items_in (g.S.LinkStore.heap c.args.store.now) (g.S.LinkStore.mem_id c.args.mem)) _ _ _ c.in_default.not-Some
    (c.loop-next.invariant.due texts are)
