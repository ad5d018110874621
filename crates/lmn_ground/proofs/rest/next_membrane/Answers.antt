use Rattle.std.proofs.Common.{map, not, ◌==◌}
use Rattle.lmn_store_heap.specs.Heap.{own_mark}
use Rattle.lmn_ground_parts.specs.Walks.{is_in}
use Rattle.lmn_ground.proofs.RestLaws.{enters}
use Rattle.lmn_ground.proofs.rest.next_membrane.Goals as goal

pub returns-in-Some-clause-list : goal.returns-in-Some-clause-list
returns-in-Some-clause-list g c = λ atoms ms t.
    let h = g.S.LinkStore.heap c.args.store.now in
    enters h c.root-root.ensures.sound (g.S.LinkStore.mem_id c.args.mem) (λ a. own_mark h a == 0) (λ n. not (is_in (map g.S.LinkStore.mem_id c.args.out.now) n)) atoms ms t
    (g.S.LinkStore.mem_id c.args.at) (g.S.LinkStore.mem_id c.in-Some.inner) (c.requires.at atoms ms t) c.in-Some.ensures.list
