use Rattle.std.proofs.Common.{arith}
use Rattle.lmn_print_plain.specs.Walks.{from_atoms, from_membranes, texts_with, tree_text}
use Rattle.lmn_print_plain.proofs.DueLemmas.{due_next, due_end}
use Rattle.lmn_print_plain.proofs.WalkLemmas.{atoms_done, stands_in, starts_at}
use Rattle.lmn_print_plain.proofs.walk.add_tree.Goals as goal

pub loop-next-init : goal.loop-next-init
loop-next-init g c = record {
  walk = λ f tree atoms are. starts_at (g.S.LinkStore.heap c.args.store.now) c.root-root.ensures.sound f tree c.root-root.ensures.few (texts_with atoms c.args.names.now c.args.table.now (g.S.LinkStore.heap c.args.store.now)) (g.S.LinkStore.mem_id c.root-root.result) c.root-root.ensures.root _;
}

pub add_atoms-requires-clause-mem : goal.add_atoms-requires-clause-mem
add_atoms-requires-clause-mem g c =
    stands_in (g.S.LinkStore.heap c.args.store.now) c.root-root.ensures.sound (g.S.LinkStore.mem_id c.loop-next.at.mem) c.loop-next.at.depth
    (c.loop-next.invariant.walk c.requires.tree.0 c.requires.tree.1 c.requires.texts.0 c.requires.texts.1).0

pub add_atoms-requires-clause-texts : goal.add_atoms-requires-clause-texts
add_atoms-requires-clause-texts g c =
    let m = g.S.LinkStore.mem_id c.loop-next.at.mem in
    let stands =
    stands_in (g.S.LinkStore.heap c.args.store.now) c.root-root.ensures.sound m c.loop-next.at.depth
    (c.loop-next.invariant.walk c.requires.tree.0 c.requires.tree.1 c.requires.texts.0 c.requires.texts.1).0 in
    (c.requires.texts.0 m, c.requires.texts.1 m stands)

pub go_on-requires : goal.go_on-requires
go_on-requires g c = (c.loop-next.invariant.walk c.requires.tree.0 c.requires.tree.1 c.requires.texts.0 c.requires.texts.1).0

pub overflow_add-entered : goal.overflow_add-entered
overflow_add-entered g c =
    let w = c.loop-next.invariant.walk c.requires.tree.0 c.requires.tree.1 c.requires.texts.0 c.requires.texts.1 in
    let most = w.2 in
    omega (arith, most)

pub loop-next-smaller : goal.loop-next-smaller
loop-next-smaller g c =
    let w = c.loop-next.invariant.walk c.requires.tree.0 c.requires.tree.1 c.requires.texts.0 c.requires.texts.1 in
    let go = c.in-Some.ensures c.requires.texts.0 c.requires.texts.1 w.0 in
    let fewer = go.fewer in
    let most = w.2 in
    omega (arith, fewer, most)

pub returns-in-None : goal.returns-in-None
returns-in-None g c = λ f tree atoms are.
    let h = g.S.LinkStore.heap c.args.store.now in
    let m = g.S.LinkStore.mem_id c.loop-next.at.mem in
    let t = texts_with atoms c.args.names.now c.args.table.now h in
    let w = c.loop-next.invariant.walk f tree atoms are in
    due_end (tree_text t f) (from_membranes t w.0) _ _ _ (atoms_done t h m c.loop-next.at.depth w.0 c.between.result.now c.between.ensures (tree_text t f) _ _ _ w.1 (c.add_atoms.ensures (atoms m) (are m (stands_in h c.root-root.ensures.sound m c.loop-next.at.depth w.0)))) (c.in-None.ensures atoms are w.0)

pub loop-next-preserved : goal.loop-next-preserved
loop-next-preserved g c = record {
  walk = λ f tree atoms are.
      let h = g.S.LinkStore.heap c.args.store.now in
      let m = g.S.LinkStore.mem_id c.loop-next.at.mem in
      let t = texts_with atoms c.args.names.now c.args.table.now h in
      let w = c.loop-next.invariant.walk f tree atoms are in
      let d = atoms_done t h m c.loop-next.at.depth w.0 c.between.result.now c.between.ensures (tree_text t f) _ _ _ w.1 (c.add_atoms.ensures (atoms m) (are m (stands_in h c.root-root.ensures.sound m c.loop-next.at.depth w.0))) in
      let go = c.in-Some.ensures atoms are w.0 in
      let fewer = go.fewer in
      let most = w.2 in
      (go.position, due_next (tree_text t f) (from_membranes t w.0) go.written (from_atoms t go.position) _ _ _ go.rest d go.adds, omega (arith, fewer, most));
}
