use Rattle.lmn_machine_commit.proofs.Rousing.{Climbing}
use Rattle.lmn_machine_commit.proofs.waking.wake_up_to.Given as goal

abbrev pub invariant-loop-step : goal.invariant-loop-step
invariant-loop-step g l = record {
  climbing : Climbing (g.S.LinkStore.heap l.fn.store) (g.S.LinkStore.heap l.store) (g.S.LinkStore.mem_id l.fn.membrane) l.step (g.S.LinkStore.mem_id l.at);
}
