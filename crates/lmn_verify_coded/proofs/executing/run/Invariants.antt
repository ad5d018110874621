use Rattle.std.proofs.Common.{◌≡◌}
use Rattle.lmn_verify_coded.specs.Turning.{CodedCanTurn}
use Rattle.lmn_verify_coded.specs.Runs.{CodedRun}
use Rattle.lmn_verify_coded.specs.Counting.{CountsTurns}
use Rattle.lmn_verify_coded.proofs.executing.run.Given as goal

abbrev pub invariant-loop : goal.invariant-loop
invariant-loop g l =
    let heap = g.S.LinkStore.heap in
    record {
      run : CodedCanTurn (heap l.coded.machine.store) l.fn.coded.codes l.fn.coded.size;
      keeps : l.coded ≡ record l.fn.coded { machine = l.coded.machine; commits = l.coded.commits };
      count : l.coded.commits ≡ l.counter;
      ran : CodedRun l.fn.coded.codes l.fn.coded.size (heap l.fn.coded.machine.store) l.coded.commits (heap l.coded.machine.store);
      steps : CountsTurns l.fn.coded.codes l.fn.coded.size (heap l.fn.coded.machine.store) l.coded.commits (heap l.coded.machine.store) l.fn.steps l.steps;
    }
