use Rattle.std.proofs.Common.{take}
use Rattle.lmn_store_heap.specs.Heap.{IsMem}
use Rattle.lmn_schedule_sleep.specs.Quiet.{SameButMarks}
use Rattle.lmn_machine_commit.specs.Waking.{IsAwakeRound}
use Rattle.lmn_machine_commit.proofs.Rouses.{RousedSoFar}
use Rattle.lmn_machine_commit.proofs.waking.wake.Given as goal

abbrev pub invariant-loop-i : goal.invariant-loop-i
invariant-loop-i g l = record {
  so : RousedSoFar g.S.LinkStore.atom_id g.S.LinkStore.mem_id l.set (g.S.LinkStore.heap l.fn.store) (take l.i l.code) (g.S.LinkStore.heap l.store);
  alike : SameButMarks (g.S.LinkStore.heap l.fn.store) (g.S.LinkStore.heap l.store);
  awake : IsAwakeRound (g.S.LinkStore.heap l.store) (g.S.LinkStore.mem_id l.top);
  near : IsMem (g.S.LinkStore.heap l.store) (g.S.LinkStore.mem_id l.near);
  near_awake : IsAwakeRound (g.S.LinkStore.heap l.store) (g.S.LinkStore.mem_id l.near);
}
