use Rattle.std.proofs.Common.{◌≡◌, ◌<◌, ◌-◌, Some}
use Rattle.std.specs.Prelude.{slice_get, take}
use Rattle.lmn_store_heap.specs.Heap.{rules_in}
use Rattle.lmn_schedule_strategy.specs.Choosing.{NoneOf}
use Rattle.lmn_schedule_strategy.specs.Counting.{CountsUpTo}
use Rattle.lmn_schedule_strategy.proofs.strategy.first_rule.Given as goal

abbrev pub invariant-loop-membrane : goal.invariant-loop-membrane
invariant-loop-membrane g l =
    let h = g.S.LinkStore.heap l.fn.machine.store in
    let m = g.S.LinkStore.mem_id l.membrane in
    record {
      same : g.S.LinkStore.heap l.machine.store ≡ h;
      below : l.place < l.rules;
      read : slice_get (rules_in h m) l.place ≡ Some l.rule;
      none : NoneOf h l.codes m (take l.place (rules_in h m));
      counts : CountsUpTo l.place l.fn.steps l.steps;
    }

abbrev pub decreases-loop-membrane : goal.decreases-loop-membrane
decreases-loop-membrane g l = l.rules - l.place
