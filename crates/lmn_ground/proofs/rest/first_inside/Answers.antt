use Rattle.std.proofs.Common.{ap}
use Rattle.std.specs.Option.{option_map}
use Rattle.lmn_ground.proofs.RestLaws.{first_here, less_left_of, next_is_in, none_behind, none_here, rest_is, rest_found}
use Rattle.lmn_ground.specs.Rests.{IsLeft}
use Rattle.std.proofs.Common.{map}
use Rattle.lmn_ground.proofs.rest.first_inside.Goals as goal

pub returns-in-Some-first_atom-clause-list : goal.returns-in-Some-first_atom-clause-list
returns-in-Some-first_atom-clause-list g c = λ atoms ms t.
    first_here (g.S.LinkStore.heap c.args.store.now) (option_map g.S.LinkStore.mem_id c.loop-next.next) (g.S.LinkStore.mem_id c.in-Some.m) (g.S.LinkStore.atom_id c.in-Some-first_atom.a) ms _
    (ap (option_map g.S.LinkStore.mem_id) c.in-Some.is) c.in-Some-first_atom.ensures.list (c.loop-next.invariant.left atoms ms t)

pub loop-next-smaller : goal.loop-next-smaller
loop-next-smaller g c =
    let h = g.S.LinkStore.heap c.args.store.now in
    let r = c.requires.rest in
    less_left_of (rest_found h (g.S.LinkStore.mem_id c.args.mem) (map g.S.LinkStore.mem_id c.args.out.now)) r.1
    (option_map g.S.LinkStore.mem_id c.loop-next.next) (option_map g.S.LinkStore.mem_id c.next_membrane-next.result) (g.S.LinkStore.mem_id c.in-Some.m)
    (rest_is h c.root-root.ensures.sound c.root-root.ensures.few _ _ r.0 r.1 r.2) (ap (option_map g.S.LinkStore.mem_id) c.in-Some.is) (c.next_membrane-next.ensures.list r.0 r.1 r.2)

pub loop-next-preserved : goal.loop-next-preserved
loop-next-preserved g c =
    let h = g.S.LinkStore.heap c.args.store.now in
    record {
      there = c.next_membrane-next.ensures.there;
      at = next_is_in g.S.LinkStore.mem_id (IsLeft h (g.S.LinkStore.mem_id c.args.mem) (map g.S.LinkStore.mem_id c.args.out.now)) (g.S.LinkStore.mem_id c.in-Some.m) c.next_membrane-next.result c.next_membrane-next.ensures.list;
      left = λ atoms ms t. none_here h (option_map g.S.LinkStore.mem_id c.loop-next.next) (option_map g.S.LinkStore.mem_id c.next_membrane-next.result) (g.S.LinkStore.mem_id c.in-Some.m) ms _
          (ap (option_map g.S.LinkStore.mem_id) c.in-Some.is) c.in_default-first_atom.ensures.list (c.loop-next.invariant.left atoms ms t) (c.next_membrane-next.ensures.list atoms ms t);
    }

pub returns-clause-list : goal.returns-clause-list
returns-clause-list g c = λ atoms ms t.
    none_behind (g.S.LinkStore.heap c.args.store.now) (option_map g.S.LinkStore.mem_id c.loop-next.next) ms _ (ap (option_map g.S.LinkStore.mem_id) c.in_default.is) (c.loop-next.invariant.left atoms ms t)
