use Rattle.lmn_store_heap.proofs.Trees.{enters}
use Rattle.lmn_print_plain.proofs.order.next_mem_printed.Goals as goal

pub returns-in-Some-clause-list : goal.returns-in-Some-clause-list
returns-in-Some-clause-list g c = λ f t.
    let m = g.S.LinkStore.mem_id c.args.mem in
    enters (g.S.LinkStore.heap c.args.store.now) c.root-root.ensures.sound f t m (g.S.LinkStore.mem_id c.in-Some.inner) (t.all m c.requires.mem) c.in-Some.ensures.list
