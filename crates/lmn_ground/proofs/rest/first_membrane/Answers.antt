use Rattle.std.proofs.Common.{map, not, subst, ◌≡◌}
use Rattle.std.specs.Option.{option_map}
use Rattle.lmn_store_heap.specs.Heap.{own_mark, from}
use Rattle.lmn_ground_parts.specs.Walks.{is_in}
use Rattle.lmn_ground_parts.specs.Rests.{keep}
use Rattle.std.proofs.Common.{◌==◌}
use Rattle.lmn_ground.proofs.RestLaws.{first_of_rest}
use Rattle.lmn_ground.proofs.rest.first_membrane.Goals as goal

pub returns-clause-list : goal.returns-clause-list
returns-clause-list g c = λ atoms ms t.
    let h = g.S.LinkStore.heap c.args.store.now in
    let m = g.S.LinkStore.mem_id c.args.mem in
    let o = option_map g.S.LinkStore.mem_id c.first_left.result in
    first_of_rest h c.root-root.ensures.sound m (λ a. own_mark h a == 0) (λ n. not (is_in (map g.S.LinkStore.mem_id c.args.out.now) n)) atoms ms t o
    (subst (λ zs. from o (keep (λ n. not (is_in (map g.S.LinkStore.mem_id c.args.out.now) n)) zs) ≡ keep (λ n. not (is_in (map g.S.LinkStore.mem_id c.args.out.now) n)) zs) c.first_mem.ensures.list c.first_left.ensures.list)
