use Rattle.lmn_store_heap.specs.Heap.{IsMem}
use Rattle.lmn_machine_commit.specs.Waking.{WakesAbove, IsAwakeRound, IsHomeBeside}
use Rattle.lmn_machine_commit.proofs.waking.wake_beside.Given as goal

abbrev pub invariant-loop-port : goal.invariant-loop-port
invariant-loop-port g l = record {
  woken : WakesAbove (IsHomeBeside (g.S.LinkStore.heap l.fn.store) (g.S.LinkStore.atom_id l.atom) l.port) (g.S.LinkStore.heap l.fn.store) (g.S.LinkStore.heap l.store);
  there : IsMem (g.S.LinkStore.heap l.store) (g.S.LinkStore.mem_id l.last);
  awake : IsAwakeRound (g.S.LinkStore.heap l.store) (g.S.LinkStore.mem_id l.last);
}
