use Rattle.std.proofs.Common.{ap, map, IsSome, ℕ, List}
use Rattle.std.specs.Option.{option_map}
use Rattle.lmn_store_heap.specs.Heap.{home_of}
use Rattle.lmn_store_heap.proofs.Common.{in_place_atom}
use Rattle.lmn_base.proofs.Lists.{holds_of_item}
use Rattle.lmn_base.specs.Lists.{In}
use Rattle.lmn_ground.specs.Rests.{IsLeft, ports_marked}
use Rattle.lmn_ground.proofs.RestLaws.{atoms_first_in, atoms_next_in, less_left_of}
use Rattle.lmn_ground.proofs.ClosingLaws.{left_there, marks_back, marks_end, marks_next, marks_same, marks_step, membrane_there, membranes_there, place_there, rest_atoms, rest_atoms_are}
use Rattle.lmn_ground.proofs.closing.mark_rest.Goals as goal

pub loop-next-init : goal.loop-next-init
loop-next-init g c =
    let s = g.S.LinkStore.heap c.args.store.now in
    record {
      same = marks_same s;
      rest = λ atoms ms t. ap (λ zs. ports_marked c.args.v zs s) (c.first_rest-next.ensures.list atoms ms t);
      at = atoms_first_in g.S.LinkStore.atom_id (IsLeft s (g.S.LinkStore.mem_id c.args.mem) (map g.S.LinkStore.mem_id c.args.out.now)) c.first_rest-next.result c.first_rest-next.ensures.list;
      place = c.first_rest-next.ensures.place;
    }

pub mark_port-requires : goal.mark_port-requires
mark_port-requires g c =
    let t = g.S.LinkStore.heap c.loop-next.store in
    in_place_atom t (g.S.LinkStore.atom_id c.in-Some.a) (holds_of_item (λ a. IsSome (home_of t (g.S.LinkStore.atom_id a))) c.loop-next.next c.in-Some.a c.in-Some.is c.loop-next.invariant.place)

pub next_rest-next-requires : goal.next_rest-next-requires
next_rest-next-requires g c =
    let s = g.S.LinkStore.heap c.args.store.now in
    let t = g.S.LinkStore.heap c.loop-next.store in
    let u = g.S.LinkStore.heap c.mark_port.new.store in
    let m = g.S.LinkStore.mem_id c.args.mem in
    let out = map g.S.LinkStore.mem_id c.args.out.now in
    let a = g.S.LinkStore.atom_id c.in-Some.a in
    let p = marks_step s t u a c.args.v c.loop-next.invariant.same c.mark_port.ensures in
    let r = c.requires.rest in
    record {
      mem = membrane_there s u m p c.requires.mem;
      out = membranes_there s u out p c.requires.out;
      rest = (r.0, r.1, left_there s u m out r.0 r.1 p r.2);
      place = place_there t u a (marks_step t t u a c.args.v (marks_same t) c.mark_port.ensures)
          (holds_of_item (λ a. IsSome (home_of t (g.S.LinkStore.atom_id a))) c.loop-next.next c.in-Some.a c.in-Some.is c.loop-next.invariant.place);
      at = λ atoms ms w. holds_of_item (λ a. (atoms ms : List ℕ) → IsLeft s m out atoms ms → In (g.S.LinkStore.atom_id a) atoms) c.loop-next.next c.in-Some.a c.in-Some.is c.loop-next.invariant.at atoms ms
          (left_there u s m out atoms ms (marks_back s u p) w);
    }

pub loop-next-preserved : goal.loop-next-preserved
loop-next-preserved g c =
    let s = g.S.LinkStore.heap c.args.store.now in
    let t = g.S.LinkStore.heap c.loop-next.store in
    let u = g.S.LinkStore.heap c.mark_port.new.store in
    let m = g.S.LinkStore.mem_id c.args.mem in
    let out = map g.S.LinkStore.mem_id c.args.out.now in
    let a = g.S.LinkStore.atom_id c.in-Some.a in
    let p = marks_step s t u a c.args.v c.loop-next.invariant.same c.mark_port.ensures in
    record {
      same = p;
      rest = λ atoms ms w. marks_next c.args.v s t u (option_map g.S.LinkStore.atom_id c.loop-next.next) (option_map g.S.LinkStore.atom_id c.next_rest-next.result) a atoms
          (ap (option_map g.S.LinkStore.atom_id) c.in-Some.is) (c.loop-next.invariant.rest atoms ms w) c.mark_port.ensures (c.next_rest-next.ensures.list atoms ms (left_there s u m out atoms ms p w));
      at = atoms_next_in g.S.LinkStore.atom_id (IsLeft s m out) a c.next_rest-next.result (λ atoms ms w. c.next_rest-next.ensures.list atoms ms (left_there s u m out atoms ms p w));
      place = c.next_rest-next.ensures.place;
    }

pub loop-next-smaller : goal.loop-next-smaller
loop-next-smaller g c =
    let s = g.S.LinkStore.heap c.args.store.now in
    let t = g.S.LinkStore.heap c.loop-next.store in
    let u = g.S.LinkStore.heap c.mark_port.new.store in
    let m = g.S.LinkStore.mem_id c.args.mem in
    let out = map g.S.LinkStore.mem_id c.args.out.now in
    let a = g.S.LinkStore.atom_id c.in-Some.a in
    let p = marks_step s t u a c.args.v c.loop-next.invariant.same c.mark_port.ensures in
    let r = c.requires.rest in
    less_left_of (rest_atoms s m out) r.0 (option_map g.S.LinkStore.atom_id c.loop-next.next) (option_map g.S.LinkStore.atom_id c.next_rest-next.result) a
    (rest_atoms_are s c.root-root.ensures.sound c.root-root.ensures.few m out r.0 r.1 r.2) (ap (option_map g.S.LinkStore.atom_id) c.in-Some.is)
    (c.next_rest-next.ensures.list r.0 r.1 (left_there s u m out r.0 r.1 p r.2))

pub returns : goal.returns
returns g c = λ atoms ms w.
    marks_end c.args.v (g.S.LinkStore.heap c.args.store.now) (g.S.LinkStore.heap c.loop-next.store) (option_map g.S.LinkStore.atom_id c.loop-next.next) atoms
    (ap (option_map g.S.LinkStore.atom_id) c.in_default.is) (c.loop-next.invariant.rest atoms ms w)
