use Rattle.std.specs.Option.{option_map}
use Rattle.lmn_store_heap.specs.Heap.{home_of}
use Rattle.lmn_print_plain.proofs.OrderLemmas.{next_here, next_further, next_none}
use Rattle.lmn_print_plain.proofs.order.next_printed.Goals as goal
use Rattle.lmn_base.proofs.Lists.{some_is as some_of}

pub returns-in-Some-clause-list : goal.returns-in-Some-clause-list
returns-in-Some-clause-list g c = λ f t.
    let h = g.S.LinkStore.heap c.args.store.now in
    let a = g.S.LinkStore.atom_id c.args.atom in
    let m = some_of (home_of h a) c.requires.place in
    next_here h c.root-root.ensures.sound f t a m.0 (g.S.LinkStore.atom_id c.in-Some.next) m.1 (c.in-Some.ensures.list m.0 m.1)

pub returns-in-Some-next_mem_printed-clause-list : goal.returns-in-Some-next_mem_printed-clause-list
returns-in-Some-next_mem_printed-clause-list g c = λ f t.
    let m = g.S.LinkStore.mem_id c.in-Some-home.mem in
    next_further (g.S.LinkStore.heap c.args.store.now) c.root-root.ensures.sound f t (g.S.LinkStore.atom_id c.args.atom) m (g.S.LinkStore.mem_id c.in-Some-next_mem_printed.inner) (option_map g.S.LinkStore.atom_id c.first_from.result)
    c.in-Some-home.ensures (c.in-None.ensures.list m c.in-Some-home.ensures) (c.in-Some-next_mem_printed.ensures.list f t) (c.first_from.ensures.list f t)

pub returns-in-None-next_mem_printed-clause-list : goal.returns-in-None-next_mem_printed-clause-list
returns-in-None-next_mem_printed-clause-list g c = λ f t.
    let m = g.S.LinkStore.mem_id c.in-Some-home.mem in
    next_none (g.S.LinkStore.heap c.args.store.now) c.root-root.ensures.sound f t (g.S.LinkStore.atom_id c.args.atom) m c.in-Some-home.ensures (c.in-None.ensures.list m c.in-Some-home.ensures) (c.in-None-next_mem_printed.ensures.list f t)
