use Rattle.std.proofs.Common.{ap, arith, map}
use Rattle.std.specs.Option.{option_map}
use Rattle.lmn_ground.specs.Rests.{IsLeft}
use Rattle.lmn_ground.proofs.RestLaws.{atoms_first_in, atoms_next_in, less_left_of}
use Rattle.lmn_ground.proofs.ClosingLaws.{rest_atoms, rest_atoms_are}
use Rattle.lmn_ground.proofs.MeasureLaws.{count_all, count_below, count_more, count_none, few_left}
use Rattle.lmn_ground.proofs.measuring.atoms_left.Goals as goal

pub loop-next-init : goal.loop-next-init
loop-next-init g c =
    let s = g.S.LinkStore.heap c.args.store.now in
    record {
      counted = λ all ms t. count_none (option_map g.S.LinkStore.atom_id c.first_rest-next.result) all (c.first_rest-next.ensures.list all ms t);
      at = atoms_first_in g.S.LinkStore.atom_id (IsLeft s (g.S.LinkStore.mem_id c.args.mem) (map g.S.LinkStore.mem_id c.args.out.now)) c.first_rest-next.result c.first_rest-next.ensures.list;
      place = c.first_rest-next.ensures.place;
    }

pub overflow_add-count : goal.overflow_add-count
overflow_add-count g c =
    let r = c.requires.rest in
    let few = few_left (g.S.LinkStore.heap c.args.store.now) c.root-root.ensures.sound c.root-root.ensures.few (g.S.LinkStore.mem_id c.args.mem) (map g.S.LinkStore.mem_id c.args.out.now) r.0 r.1 r.2 in
    let low = count_below c.loop-next.count (g.S.LinkStore.atom_id c.in-Some.a) (option_map g.S.LinkStore.atom_id c.loop-next.next) r.0 (ap (option_map g.S.LinkStore.atom_id) c.in-Some.is) (c.loop-next.invariant.counted r.0 r.1 r.2) in
    omega (arith, few, low)

pub loop-next-smaller : goal.loop-next-smaller
loop-next-smaller g c =
    let s = g.S.LinkStore.heap c.args.store.now in
    let m = g.S.LinkStore.mem_id c.args.mem in
    let out = map g.S.LinkStore.mem_id c.args.out.now in
    let r = c.requires.rest in
    less_left_of (rest_atoms s m out) r.0 (option_map g.S.LinkStore.atom_id c.loop-next.next) (option_map g.S.LinkStore.atom_id c.next_rest-next.result) (g.S.LinkStore.atom_id c.in-Some.a)
    (rest_atoms_are s c.root-root.ensures.sound c.root-root.ensures.few m out r.0 r.1 r.2) (ap (option_map g.S.LinkStore.atom_id) c.in-Some.is) (c.next_rest-next.ensures.list r.0 r.1 r.2)

pub loop-next-preserved : goal.loop-next-preserved
loop-next-preserved g c =
    let s = g.S.LinkStore.heap c.args.store.now in
    let m = g.S.LinkStore.mem_id c.args.mem in
    let out = map g.S.LinkStore.mem_id c.args.out.now in
    record {
      counted = λ all ms t. count_more c.loop-next.count (g.S.LinkStore.atom_id c.in-Some.a) (option_map g.S.LinkStore.atom_id c.loop-next.next) (option_map g.S.LinkStore.atom_id c.next_rest-next.result) all
          (ap (option_map g.S.LinkStore.atom_id) c.in-Some.is) (c.next_rest-next.ensures.list all ms t) (c.loop-next.invariant.counted all ms t);
      at = atoms_next_in g.S.LinkStore.atom_id (IsLeft s m out) (g.S.LinkStore.atom_id c.in-Some.a) c.next_rest-next.result c.next_rest-next.ensures.list;
      place = c.next_rest-next.ensures.place;
    }

pub returns : goal.returns
returns g c = λ all ms t. count_all c.loop-next.count (option_map g.S.LinkStore.atom_id c.loop-next.next) all (ap (option_map g.S.LinkStore.atom_id) c.in_default.is) (c.loop-next.invariant.counted all ms t)
