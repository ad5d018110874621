use Rattle.std.proofs.Common.{map, not, ◌==◌}
use Rattle.std.specs.Option.{option_map}
use Rattle.lmn_store_heap.specs.Heap.{own_mark}
use Rattle.lmn_ground_parts.specs.Walks.{is_in}
use Rattle.lmn_ground.specs.Rests.{IsLeft}
use Rattle.lmn_ground.proofs.RestLaws.{first_inner, first_is_in, first_own}
use Rattle.lmn_ground.proofs.rest.first_rest.Goals as goal

pub first_inside-requires-clause-at : goal.first_inside-requires-clause-at
first_inside-requires-clause-at g c =
    first_is_in g.S.LinkStore.mem_id (IsLeft (g.S.LinkStore.heap c.args.store.now) (g.S.LinkStore.mem_id c.args.mem) (map g.S.LinkStore.mem_id c.args.out.now)) c.first_membrane.result c.first_membrane.ensures.list

pub returns-in-Some-clause-list : goal.returns-in-Some-clause-list
returns-in-Some-clause-list g c = λ atoms ms t.
    let h = g.S.LinkStore.heap c.args.store.now in
    first_own h c.root-root.ensures.sound (g.S.LinkStore.mem_id c.args.mem) (λ a. own_mark h a == 0) (λ n. not (is_in (map g.S.LinkStore.mem_id c.args.out.now) n)) atoms ms t
    (g.S.LinkStore.atom_id c.in-Some.a) (option_map g.S.LinkStore.atom_id c.first_atom.result) c.first_atom.ensures.list c.in-Some.ensures.list

pub returns-in-None-clause-list : goal.returns-in-None-clause-list
returns-in-None-clause-list g c = λ atoms ms t.
    let h = g.S.LinkStore.heap c.args.store.now in
    first_inner h c.root-root.ensures.sound (g.S.LinkStore.mem_id c.args.mem) (λ a. own_mark h a == 0) (λ n. not (is_in (map g.S.LinkStore.mem_id c.args.out.now) n)) atoms ms t
    (option_map g.S.LinkStore.atom_id c.first_atom.result) (option_map g.S.LinkStore.atom_id c.first_inside.result) (option_map g.S.LinkStore.mem_id c.first_membrane.result)
    c.first_atom.ensures.list c.in-None.ensures.list (c.first_membrane.ensures.list atoms ms t) (c.first_inside.ensures.list atoms ms t)
