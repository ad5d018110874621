use Rattle.std.proofs.Common.{◌+◌, drop, map}
use Rattle.lmn_store_heap.specs.Heap.{arity_of}
use Rattle.lmn_ground.specs.Rests.{own_marked}
use Rattle.lmn_machine.proofs.Owning.{own_next, there_marked}
use Rattle.lmn_machine.proofs.whole.mark_all.Goals as goal
use Rattle.lmn_base.proofs.Lists.{drop_get}

pub loop-i-preserved : goal.loop-i-preserved
loop-i-preserved g c = record {
  left = own_next g.S.LinkStore.atom_id (own_marked c.args.mark (map g.S.LinkStore.atom_id c.args.atoms.now) (g.S.LinkStore.heap c.args.store.now)) (g.S.LinkStore.heap c.loop-i.store) (g.S.LinkStore.heap c.set_own.new.store) c.args.mark
      (drop c.loop-i.i c.args.atoms.now) (drop (c.loop-i.i + 1) c.args.atoms.now) c.at.result (drop_get c.loop-i.i c.args.atoms.now c.at.result c.at.ensures) c.loop-i.invariant.left c.set_own.ensures;
  held = λ k b e. there_marked (g.S.LinkStore.heap c.loop-i.store) (g.S.LinkStore.heap c.set_own.new.store) (g.S.LinkStore.atom_id c.at.result) (arity_of (g.S.LinkStore.heap c.loop-i.store) (g.S.LinkStore.atom_id c.at.result)) c.args.mark (g.S.LinkStore.atom_id b) c.set_own.ensures (c.loop-i.invariant.held k b e);
}
