use Rattle.std.proofs.Common.{◌≤◌, ◌-◌, length}
use Rattle.lmn_store_heap.specs.Sound.{Forest, IsTree, flat}
use Rattle.lmn_schedule_sleep.specs.Quiet.{SameButMarks}
use Rattle.lmn_schedule_strategy.specs.Between.{between}
use Rattle.lmn_schedule_strategy.specs.Choosing.{CanTurn}
use Rattle.lmn_schedule_strategy.specs.Quieting.{SleepsRightly}
use Rattle.lmn_schedule_strategy.proofs.Passing.{Passed}
use Rattle.lmn_schedule_strategy.proofs.strategy.first_of_some.Given as goal

abbrev pub invariant-loop-next : goal.invariant-loop-next
invariant-loop-next g l =
    let h = g.S.LinkStore.heap l.fn.machine.store in
    let k = g.S.LinkStore.heap l.machine.store in
    record {
      alike : SameButMarks h k;
      turn : CanTurn k (length l.codes);
      sleeps : SleepsRightly k l.codes;
      low : l.from ≤ l.at;
      high : l.at ≤ l.until;
      passed : (f : Forest) → IsTree h f → Passed l.sleep h k l.codes (between l.from l.at (flat f)) l.fn.steps l.steps;
    }

abbrev pub decreases-loop-next : goal.decreases-loop-next
decreases-loop-next g l = l.until - l.at
