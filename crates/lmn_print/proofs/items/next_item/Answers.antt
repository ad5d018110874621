use Rattle.std.proofs.Common.{◌≡◌}
use Rattle.std.specs.Option.{option_map}
use Rattle.lmn_store_heap.proofs.Listing.{home_is}
use Rattle.lmn_print.proofs.ItemLemmas.{each_mapped, next_some, next_turned, next_none}
use Rattle.lmn_print.proofs.items.next_item.Goals as goal
use Rattle.lmn_store_heap.specs.Heap.{own_mark}

pub returns-in-Some-clause-list : goal.returns-in-Some-clause-list
returns-in-Some-clause-list g c =
    let s = g.S.LinkStore.heap c.args.store.now in
    let m = g.S.LinkStore.mem_id c.args.mem in
    let a = g.S.LinkStore.atom_id c.args.item in
    next_some s m c.own_mark-mark.result a (g.S.LinkStore.atom_id c.in-Some.next) (option_map g.S.LinkStore.atom_id c.next_atom.result)
    ((c.root-root.ensures.sound.listed.atoms m a).1 (home_is s a m c.requires.home)) c.requires.item c.own_mark-mark.ensures (c.next_atom.ensures.list m c.requires.home) c.in-Some.ensures.list c.in-Some.ensures.mark

pub returns-then-mark-eq-FIRST_ITEM-clause-list : goal.returns-then-mark-eq-FIRST_ITEM-clause-list
returns-then-mark-eq-FIRST_ITEM-clause-list g c =
    let s = g.S.LinkStore.heap c.args.store.now in
    let m = g.S.LinkStore.mem_id c.args.mem in
    let a = g.S.LinkStore.atom_id c.args.item in
    next_turned s m c.own_mark-mark.result a (option_map g.S.LinkStore.atom_id c.next_atom.result) (option_map g.S.LinkStore.atom_id c.first_atom.result) (option_map g.S.LinkStore.atom_id c.with_mark-then-mark-eq-FIRST_ITEM.result)
    ((c.root-root.ensures.sound.listed.atoms m a).1 (home_is s a m c.requires.home)) c.own_mark-mark.ensures c.if-mark-eq-FIRST_ITEM.true (c.next_atom.ensures.list m c.requires.home) c.in-None.ensures.list
    c.first_atom.ensures.list c.with_mark-then-mark-eq-FIRST_ITEM.ensures.list (each_mapped g.S.LinkStore.atom_id (λ b. own_mark s b ≡ 2) c.with_mark-then-mark-eq-FIRST_ITEM.result c.with_mark-then-mark-eq-FIRST_ITEM.ensures.mark)

pub returns-else-mark-eq-FIRST_ITEM-clause-list : goal.returns-else-mark-eq-FIRST_ITEM-clause-list
returns-else-mark-eq-FIRST_ITEM-clause-list g c =
    let s = g.S.LinkStore.heap c.args.store.now in
    let m = g.S.LinkStore.mem_id c.args.mem in
    next_none s m c.own_mark-mark.result (g.S.LinkStore.atom_id c.args.item) (option_map g.S.LinkStore.atom_id c.next_atom.result)
    c.requires.item c.own_mark-mark.ensures c.if-mark-eq-FIRST_ITEM.false (c.next_atom.ensures.list m c.requires.home) c.in-None.ensures.list
