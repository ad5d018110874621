use Rattle.lmn_schedule_loading.proofs.FillingSteps.{fills_none, leaves_next}
use Rattle.lmn_schedule_loading.proofs.filling.add_leaves.Goals as goal

pub loop-leaf-init : goal.loop-leaf-init
loop-leaf-init g c = fills_none g.S.LinkStore.atom_id (g.S.LinkStore.heap c.args.store.now) (g.S.LinkStore.mem_id c.args.m) c.args.ports.now c.requires.ready

pub loop-leaf-preserved : goal.loop-leaf-preserved
loop-leaf-preserved g c = leaves_next g.S.LinkStore.atom_id (g.S.LinkStore.heap c.args.store.now) (g.S.LinkStore.heap c.loop-leaf.store) (g.S.LinkStore.heap c.add_leaf.new.store) (g.S.LinkStore.mem_id c.args.m) c.args.leaves.now c.loop-leaf.leaf-index c.leaf-item.result
    c.args.ports.now c.loop-leaf.ports c.add_leaf.new.ports c.requires.ready c.loop-leaf-test.true c.leaf-item.is c.loop-leaf.invariant c.in_ok-add_leaf.ensures
