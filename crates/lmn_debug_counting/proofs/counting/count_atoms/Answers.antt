use Rattle.std.proofs.Common.{Some, arith}
use Rattle.lmn_store_heap.specs.Sound.{flat}
use Rattle.lmn_debug_counting.proofs.Walks.{walk_first, walk_next, walk_fits}
use Rattle.lmn_store_trait.proofs.Numbers.{root_number, number_next, number_mem, never_ends}
use Rattle.lmn_debug_counting.proofs.counting.count_atoms.Goals as goal

pub loop-init : goal.loop-init
loop-init g c =
    let h = g.S.LinkStore.heap c.args.store.now in
    let m = g.S.LinkStore.mem_id c.root-at.result in
    record { number = root_number h m c.root-at.ensures.root; rest = walk_first h c.args.functor m c.root-at.ensures.root }

pub count_of_membrane-total-requires : goal.count_of_membrane-total-requires
count_of_membrane-total-requires g c = number_mem (g.S.LinkStore.heap c.args.store.now) c.loop.counter (g.S.LinkStore.mem_id c.loop.at) c.requires c.loop.invariant.number

pub overflow_add-total : goal.overflow_add-total
overflow_add-total g c =
    let h = g.S.LinkStore.heap c.args.store.now in
    let f = c.requires.tree.0 in
    let t = c.requires.tree.1 in
    let m = g.S.LinkStore.mem_id c.loop.at in
    let small = walk_fits h c.args.functor c.loop.total c.count_of_membrane-total.result m c.loop.counter c.items-items.result (flat f) (c.loop.invariant.rest f t) c.count_of_membrane-total.ensures (c.loop.invariant.number f t) (c.items-items.ensures f t) (omega (arith, c.items-items.type_inv)) in
    omega (arith, small)

pub next_membrane-requires-clause-membrane : goal.next_membrane-requires-clause-membrane
next_membrane-requires-clause-membrane g c = number_mem (g.S.LinkStore.heap c.args.store.now) c.loop.counter (g.S.LinkStore.mem_id c.loop.at) c.requires c.loop.invariant.number

pub loop-preserved : goal.loop-preserved
loop-preserved g c =
    let h = g.S.LinkStore.heap c.args.store.now in
    let m = g.S.LinkStore.mem_id c.loop.at in
    let next = Some (g.S.LinkStore.mem_id c.in-Some.next) in
    record {
      number = number_next h c.loop.counter m next c.loop.invariant.number c.in-Some.ensures;
      rest = λ f t. walk_next h c.args.functor c.loop.total c.count_of_membrane-total.result m next (flat f) (c.loop.invariant.rest f t) c.count_of_membrane-total.ensures (c.in-Some.ensures f t);
    }

pub returns : goal.returns
returns g c = λ f t. never_ends (g.S.LinkStore.heap c.args.store.now) c.loop.counter (g.S.LinkStore.mem_id c.loop.at) c.root-at.ensures.sound c.root-at.ensures.few
    (let f = c.loop-test.false in omega (arith, f)) c.loop.invariant.number f t
