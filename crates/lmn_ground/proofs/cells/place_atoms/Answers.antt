use Rattle.std.proofs.Common.{◌<◌, ◌≤◌, arith, length, refl}
use Rattle.lmn_ground.proofs.PlaceLaws.{place_first, place_last, place_next, still_in_place}
use Rattle.lmn_ground.proofs.cells.place_atoms.Goals as goal

pub loop-init : goal.loop-init
loop-init g c = record { outer = c.requires.to; left = λ ys behind l e. (e, refl) }

pub place_atom-atom-requires-clause-mem : goal.place_atom-atom-requires-clause-mem
place_atom-atom-requires-clause-mem g c = c.loop.invariant.outer

pub place_atom-atom-requires-clause-waiting : goal.place_atom-atom-requires-clause-waiting
place_atom-atom-requires-clause-waiting g c =
    let r = c.requires.line in
    let a = c.loop-test.true in
    let b = c.atoms-end.ensures in
    let l = r.2 in
    let below : c.loop.counter < length r.0 = omega (arith, a, b, l) in
    place_first (g.S.LinkStore.heap c.loop.store) (g.S.LinkStore.mem_id c.args.to) c.loop.counter r.0 r.1 (g.S.LinkStore.heap c.args.store.now) below (c.loop.invariant.left r.0 r.1 r.2 r.3)

pub loop-preserved : goal.loop-preserved
loop-preserved g c =
    let s = g.S.LinkStore.heap c.args.store.now in
    let t = g.S.LinkStore.heap c.loop.store in
    let u = g.S.LinkStore.heap c.place_atom-atom.new.self in
    let n = g.S.LinkStore.mem_id c.args.to in
    let x = g.S.LinkStore.atom_id c.place_atom-atom.result in
    let e = c.place_atom-atom.ensures in
    record {
      outer = still_in_place t u n x n e.placed c.loop.invariant.outer;
      left = λ ys behind l q.
          let a = c.loop-test.true in
          let b = c.atoms-end.ensures in
          let below : c.loop.counter < length ys = omega (arith, a, b, l) in
          place_next s t u n c.loop.counter x ys behind below (c.loop.invariant.left ys behind l q) e.first e.placed;
    }

pub returns : goal.returns
returns g c = λ ys behind l q.
    let a = c.loop-test.false in
    let b = c.atoms-end.ensures in
    let past : length ys ≤ c.loop.counter = omega (arith, a, b, l) in
    place_last (g.S.LinkStore.heap c.args.store.now) (g.S.LinkStore.heap c.loop.store) (g.S.LinkStore.mem_id c.args.to) c.loop.counter ys behind past (c.loop.invariant.left ys behind l q)
