use Rattle.std.proofs.Common.{◌≡◌, ◌+◌, List}
use Rattle.lmn_congruence.specs.Regions.{Region}
use Rattle.lmn_congruence.specs.Rules.{Name}
use Rattle.lmn_adequacy.specs.Runs.{Chooser}
use Rattle.lmn_order.specs.Answers.{AnswersBelow}
use Rattle.lmn_schedule.specs.Held.{EngineCanTurn}
use Rattle.lmn_schedule.specs.Turning.{Gives}
use Rattle.lmn_debug.specs.Courses.{course}
use Rattle.lmn_debug.specs.Sessions.{StandsAt}
use Rattle.lmn_debug.proofs.session.Session.step.Given as goal

abbrev pub invariant-loop : goal.invariant-loop
invariant-loop g l =
    let heap = g.S.LinkStore.heap in
    record {
      run : EngineCanTurn (heap l.self.engine.machine.store) l.self.engine.plain.now.rules l.self.engine.codes l.self.engine.size;
      chooser : AnswersBelow (λ f t m. g.F.Fn.pre f (t, (m, tt))) (λ f t m r. g.F.Fn.post f (t, (m, tt)) r) l.self.engine.chooser.f;
      keeps : l.self.engine ≡ record l.fn.self.engine { machine = l.self.engine.machine; commits = l.self.engine.commits };
      count : l.self.engine.commits ≡ l.fn.self.engine.commits + l.counter;
      stands : (c : Chooser) → Gives (λ f t m r. g.F.Fn.post f (t, (m, tt)) r) l.fn.self.engine.chooser.f c → (names : List Name) (first : Region) →
          StandsAt names l.fn.self.engine.plain.now.rules (course c l.fn.self.engine.size first) l.fn.self.engine.commits (heap l.fn.self.engine.machine.store) →
          StandsAt names l.fn.self.engine.plain.now.rules (course c l.fn.self.engine.size first) l.self.engine.commits (heap l.self.engine.machine.store);
    }
