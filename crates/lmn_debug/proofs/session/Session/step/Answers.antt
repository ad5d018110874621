use Rattle.std.proofs.Common.{◌≡◌, ◌+◌, Some, sym, ap, subst, ◌∙◌, arith}
use Rattle.lmn_order.specs.Answers.{AnswersBelow}
use Rattle.lmn_schedule.specs.Turning.{Gives}
use Rattle.lmn_debug.specs.Courses.{course}
use Rattle.lmn_debug.specs.Sessions.{StandsAt}
use Rattle.lmn_debug.specs.Turning.{TurnsTo, counted}
use Rattle.lmn_debug.proofs.Turns.{moved_to, step_stops, stepped_by}
use Rattle.lmn_debug.specs.declared.session.Stop.TheVariants as stop
use Rattle.lmn_debug.proofs.session.Session.step.Goals as goal

pub turn-requires-clause-commits : goal.turn-requires-clause-commits
turn-requires-clause-commits g c =
    let l = c.loop-test.true in
    let e = c.loop.invariant.count in
    let a = c.requires.few.0 in
    let b = c.requires.few.1 in
    omega (arith, l, e, a, b)

pub returns-in-Some-clause-stepped : goal.returns-in-Some-clause-stepped
returns-in-Some-clause-stepped g c k gives names first s =
    let start = c.args.self.now.engine in
    let engine = c.loop.self.engine in
    let keeps = c.loop.invariant.keeps in
    let n' = c.turn.new.self.engine.commits in
    let h' = g.S.LinkStore.heap c.turn.new.self.engine.machine.store in
    let table = start.plain.now.rules in
    let over = course k start.size first in
    let at = c.loop.invariant.stands k gives names first s in
    let gives' = subst (λ f. Gives (λ f t m r. g.F.Fn.post f (t, (m, tt)) r) f k) (sym (λ i. (keeps i).chooser.f)) gives in
    let turn = moved_to (λ T z. (s : StandsAt names T (course k z first) engine.commits (g.S.LinkStore.heap engine.machine.store)) → TurnsTo names T (course k z first) s.solid s.is.before c.turn.result n' h') (λ i. (keeps i).plain.now.rules) (λ i. (keeps i).size) (c.turn.ensures.turned k gives' names first) at in
    let none_more : n' ≡ engine.commits + 0 = subst (λ o. n' ≡ engine.commits + counted o) c.in-Some.is c.turn.ensures.counts in
    let l = c.loop-test.true in
    let e = c.loop.invariant.count in
    step_stops names table over start.commits c.args.n n' h' at.solid at.is.before (omega (arith, none_more, e), omega (arith, none_more, e, l)) c.in-Some.stop
    (subst (λ o. TurnsTo names table over at.solid at.is.before o n' h') c.in-Some.is turn)

pub returns-in-Some-clause-keeps : goal.returns-in-Some-clause-keeps
returns-in-Some-clause-keeps g c = c.turn.ensures.keeps ∙ (λ i. record (c.loop.invariant.keeps i) { machine = c.turn.new.self.engine.machine; commits = c.turn.new.self.engine.commits })

pub returns-in-Some-clause-all : goal.returns-in-Some-clause-all
returns-in-Some-clause-all g c = λ e. absurd (c.turn.ensures.refuses (c.in-Some.is ∙ ap Some e))

pub loop-preserved : goal.loop-preserved
loop-preserved g c =
    let start = c.args.self.now.engine in
    let engine = c.loop.self.engine in
    let keeps = c.loop.invariant.keeps in
    let n' = c.turn.new.self.engine.commits in
    let h' = g.S.LinkStore.heap c.turn.new.self.engine.machine.store in
    let e = c.loop.invariant.count in
    let one_more : n' ≡ engine.commits + 1 = subst (λ o. n' ≡ engine.commits + counted o) c.in_default.is c.turn.ensures.counts in
    record {
      run = c.turn.ensures.again;
      chooser = subst (AnswersBelow (λ f t m. g.F.Fn.pre f (t, (m, tt))) (λ f t m r. g.F.Fn.post f (t, (m, tt)) r)) (sym (λ i. (c.turn.ensures.keeps i).chooser.f)) c.loop.invariant.chooser;
      keeps = c.turn.ensures.keeps ∙ (λ i. record (keeps i) { machine = c.turn.new.self.engine.machine; commits = n' });
      count = omega (arith, one_more, e);
      stands = λ k gives names first s. (
          let table = start.plain.now.rules in
          let over = course k start.size first in
          let at = c.loop.invariant.stands k gives names first s in
          let gives' = subst (λ f. Gives (λ f t m r. g.F.Fn.post f (t, (m, tt)) r) f k) (sym (λ i. (keeps i).chooser.f)) gives in
          let turn = moved_to (λ T z. (s : StandsAt names T (course k z first) engine.commits (g.S.LinkStore.heap engine.machine.store)) → TurnsTo names T (course k z first) s.solid s.is.before c.turn.result n' h') (λ i. (keeps i).plain.now.rules) (λ i. (keeps i).size) (c.turn.ensures.turned k gives' names first) at in
          (subst (λ o. TurnsTo names table over at.solid at.is.before o n' h') c.in_default.is turn).0);
    }

pub returns-clause-stepped : goal.returns-clause-stepped
returns-clause-stepped g c k gives names first s =
    let f = c.loop-test.false in
    let l = c.loop.auto in
    let e = c.loop.invariant.count in
    let start = c.args.self.now.engine in
    let at = c.loop.invariant.stands k gives names first s in
    stepped_by names start.plain.now.rules (course k start.size first) start.commits c.args.n _ _ stop.Done at (omega (arith, e))

pub returns-clause-all : goal.returns-clause-all
returns-clause-all g c =
    let f = c.loop-test.false in
    let l = c.loop.auto in
    let e = c.loop.invariant.count in
    λ d. omega (arith, e)
