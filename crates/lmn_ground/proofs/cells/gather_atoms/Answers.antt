use Rattle.std.proofs.Common.{ap, map}
use Rattle.std.specs.Option.{option_map}
use Rattle.lmn_ground.specs.Rests.{IsLeft}
use Rattle.lmn_ground.proofs.RestLaws.{atoms_first_in, atoms_next_in, less_left_of}
use Rattle.lmn_ground.proofs.ClosingLaws.{rest_atoms, rest_atoms_are}
use Rattle.lmn_ground.proofs.GatherRestLaws.{listed_all, listed_more, listed_none}
use Rattle.lmn_ground.proofs.cells.gather_atoms.Goals as goal

pub loop-next-init : goal.loop-next-init
loop-next-init g c =
    let s = g.S.LinkStore.heap c.args.store.now in
    record {
      listed = λ all ms t. listed_none g.S.LinkStore.atom_id c.args.atoms.now (option_map g.S.LinkStore.atom_id c.first_rest-next.result) all c.requires.empty (c.first_rest-next.ensures.list all ms t);
      at = atoms_first_in g.S.LinkStore.atom_id (IsLeft s (g.S.LinkStore.mem_id c.args.mem) (map g.S.LinkStore.mem_id c.args.out.now)) c.first_rest-next.result c.first_rest-next.ensures.list;
      place = c.first_rest-next.ensures.place;
    }

pub loop-next-smaller : goal.loop-next-smaller
loop-next-smaller g c =
    let s = g.S.LinkStore.heap c.args.store.now in
    let m = g.S.LinkStore.mem_id c.args.mem in
    let out = map g.S.LinkStore.mem_id c.args.out.now in
    let r = c.requires.rest in
    less_left_of (rest_atoms s m out) r.0 (option_map g.S.LinkStore.atom_id c.loop-next.next) (option_map g.S.LinkStore.atom_id c.next_rest-next.result) (g.S.LinkStore.atom_id c.in-Some.a)
    (rest_atoms_are s c.root-root.ensures.sound c.root-root.ensures.few m out r.0 r.1 r.2) (ap (option_map g.S.LinkStore.atom_id) c.in-Some.is) (c.next_rest-next.ensures.list r.0 r.1 r.2)

pub loop-next-preserved : goal.loop-next-preserved
loop-next-preserved g c =
    let s = g.S.LinkStore.heap c.args.store.now in
    let m = g.S.LinkStore.mem_id c.args.mem in
    let out = map g.S.LinkStore.mem_id c.args.out.now in
    record {
      listed = λ all ms t. listed_more g.S.LinkStore.atom_id c.loop-next.atoms _ c.in-Some.a (option_map g.S.LinkStore.atom_id c.loop-next.next) (option_map g.S.LinkStore.atom_id c.next_rest-next.result) all
          c.in_ok-push.ensures.ok (ap (option_map g.S.LinkStore.atom_id) c.in-Some.is) (c.loop-next.invariant.listed all ms t) (c.next_rest-next.ensures.list all ms t);
      at = atoms_next_in g.S.LinkStore.atom_id (IsLeft s m out) (g.S.LinkStore.atom_id c.in-Some.a) c.next_rest-next.result c.next_rest-next.ensures.list;
      place = c.next_rest-next.ensures.place;
    }

pub returns : goal.returns
returns g c = record {
  all = λ all ms t.
      listed_all g.S.LinkStore.atom_id c.loop-next.atoms (option_map g.S.LinkStore.atom_id c.loop-next.next) all (ap (option_map g.S.LinkStore.atom_id) c.in_default.is) (c.loop-next.invariant.listed all ms t);
}
