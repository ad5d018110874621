use Rattle.std.proofs.Common.{arith}
use Rattle.lmn_machine_commit.proofs.Placing.{one_waits, place_step}
use Rattle.lmn_machine_commit.proofs.committing.place_atoms.Goals as goal
use Rattle.lmn_ground.proofs.PlaceLaws.{still_in_place}

pub place_atom-atom-requires-clause-waiting : goal.place_atom-atom-requires-clause-waiting
place_atom-atom-requires-clause-waiting g c =
    let w = c.requires.waiting in
    let l = c.loop-i-test.true in
    let e = w.2 in
    one_waits (g.S.LinkStore.heap c.loop-i.store) c.loop-i.i w.0 w.1 (omega (arith, l, e)) (c.loop-i.invariant.ahead w.0 w.1 w.2 w.3).0

pub loop-i-preserved : goal.loop-i-preserved
loop-i-preserved g c = record {
  membrane = still_in_place (g.S.LinkStore.heap c.loop-i.store) (g.S.LinkStore.heap c.place_atom-atom.new.self) (g.S.LinkStore.mem_id c.args.m) (g.S.LinkStore.atom_id c.place_atom-atom.result) (g.S.LinkStore.mem_id c.args.m) c.place_atom-atom.ensures.placed c.loop-i.invariant.membrane;
  ahead = λ atoms rest l e. (let w = c.loop-i.invariant.ahead atoms rest l e in
      let t = c.loop-i-test.true in
      place_step (g.S.LinkStore.mem_id c.args.m) (g.S.LinkStore.atom_id c.place_atom-atom.result) (g.S.LinkStore.heap c.args.store.now) (g.S.LinkStore.heap c.loop-i.store) (g.S.LinkStore.heap c.place_atom-atom.new.self) c.loop-i.i atoms rest (omega (arith, t, l)) w.0
      c.place_atom-atom.ensures.first c.place_atom-atom.ensures.placed w.1);
}
