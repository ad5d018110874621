use Rattle.std.proofs.Common.{◌≡◌}
use Rattle.lmn_adequacy.specs.Runs.{Chooser}
use Rattle.lmn_congruence.specs.Regions.{Region}
use Rattle.lmn_io.specs.Counts.{NoneFailed}
use Rattle.lmn_schedule.specs.Held.{EngineCanTurn, HoldsRegion}
use Rattle.lmn_schedule.specs.Turning.{Gives}
use Rattle.lmn_app_drive.specs.AskingOn.{AskedSoFar}
use Rattle.lmn_app_drive.specs.Answers.{GoingByAnswers}
use Rattle.lmn_app_drive.specs.Driving.{Going, given_by_engine}
use Rattle.lmn_app_drive.proofs.driving.run.Given as goal

abbrev pub invariant-loop : goal.invariant-loop
invariant-loop g l =
    let heap = g.S.LinkStore.heap in
    record {
      run : EngineCanTurn (heap l.engine.machine.store) l.plain.rules l.fn.engine.codes l.fn.engine.size;
      keeps : l.engine ≡ record l.fn.engine { machine = l.engine.machine; commits = l.engine.commits };
      count : l.engine.commits ≡ l.counter;
      same : NoneFailed (g.O.Sink.faults l.fn.out) (g.O.Sink.faults l.out);
      going : (c : Chooser) → Gives (λ f t m r. g.F.Fn.post f (t, (m, tt)) r) l.fn.engine.chooser.f c → (solid : Region) → HoldsRegion l.names l.plain.rules (heap l.fn.engine.machine.store) solid →
          Going (given_by_engine l.names l.plain.rules l.fn.engine.size l.options c solid) l.engine.commits (heap l.engine.machine.store) (g.O.Sink.told l.fn.out) (g.O.Sink.told l.out);
      answered : (solid : Region) → HoldsRegion l.names l.plain.rules (heap l.fn.engine.machine.store) solid →
          GoingByAnswers (λ t m r. g.F.Fn.post l.fn.engine.chooser.f (t, (m, tt)) r) (λ c. given_by_engine l.names l.plain.rules l.fn.engine.size l.options c solid) l.engine.commits (heap l.engine.machine.store) (g.O.Sink.told l.fn.out) (g.O.Sink.told l.out) l.fn.steps l.steps;
      asks : AskedSoFar (λ t m r. g.F.Fn.post l.fn.engine.chooser.f (t, (m, tt)) r) l.plain.rules l.fn.engine.codes l.fn.engine.size (heap l.fn.engine.machine.store) l.engine.commits (heap l.engine.machine.store) l.fn.steps l.steps;
    }
