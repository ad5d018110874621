use Rattle.std.proofs.Common.{arith}
use Rattle.lmn_store_heap.specs.Heap.{atoms_in}
use Rattle.lmn_debug_counting.proofs.Walks.{with_few}
use Rattle.lmn_debug_counting.proofs.counting.count_of_membrane.Goals as goal

pub returns : goal.returns
returns g c =
    let f = c.loop-counted-test.false in
    let l = c.loop-counted.auto in
    let rest = c.loop-counted.invariant.rest in
    let most = c.atoms-most.ensures in
    let few = with_few (g.S.LinkStore.heap c.args.store.now) c.args.functor (atoms_in (g.S.LinkStore.heap c.args.store.now) (g.S.LinkStore.mem_id c.args.membrane)) in
    omega (arith, rest, most, few)
