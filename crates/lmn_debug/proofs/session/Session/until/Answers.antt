use Rattle.std.proofs.Common.{◌≡◌, ◌+◌, ◌≤◌, ◌<◌, refl, sym, subst, ◌∙◌, arith}
use Rattle.lmn_order.specs.Answers.{AnswersBelow}
use Rattle.lmn_schedule.specs.Held.{HoldsRegion}
use Rattle.lmn_schedule.specs.Turning.{Gives}
use Rattle.lmn_debug.specs.Courses.{course, most_turns, wish}
use Rattle.lmn_debug.specs.Sessions.{StandsWaited}
use Rattle.lmn_debug.specs.Turning.{Waits, WaitsOn, counted}
use Rattle.lmn_debug.specs.declared.session.Stop.TheVariants as stop
use Rattle.lmn_debug.proofs.Turns.{moved_to, waits_first, waits_limit, waits_met}
use Rattle.lmn_debug.proofs.session.Session.until.Goals as goal
use Rattle.lmn_store_heap.proofs.Common.{moved}

pub loop-init : goal.loop-init
loop-init g c =
    let start = c.args.self.now.engine in
    record {
      run = c.requires.run;
      chooser = c.requires.chooser;
      keeps = refl;
      count = omega arith;
      waits = λ k gives names known first s. waits_first names start.plain.now.rules (course k start.size first) (wish c.args.functor c.args.stop.now.op c.args.stop.now.n) start.commits (g.S.LinkStore.heap start.machine.store) s;
    }

pub wait-requires-clause-commits : goal.wait-requires-clause-commits
wait-requires-clause-commits g c =
    let l = c.loop-test.true in
    let e = c.loop.invariant.count in
    let a = c.requires.commits in
    omega (arith, l, e, a)

pub returns-in-Some-clause-waited : goal.returns-in-Some-clause-waited
returns-in-Some-clause-waited g c k gives names first known s =
    let start = c.args.self.now.engine in
    let engine = c.loop.self.engine in
    let keeps = c.loop.invariant.keeps in
    let n' = c.wait.new.self.engine.commits in
    let h' = g.S.LinkStore.heap c.wait.new.self.engine.machine.store in
    let table = start.plain.now.rules in
    let over = course k start.size first in
    let w = wish c.args.functor c.args.stop.now.op c.args.stop.now.n in
    let at = c.loop.invariant.waits k gives names known first s in
    let gives' = subst (λ f. Gives (λ f t m r. g.F.Fn.post f (t, (m, tt)) r) f k) (sym (λ i. (keeps i).chooser.f)) gives in
    let l = c.loop-test.true in
    let e = c.loop.invariant.count in
    let turn = moved_to (λ T z. Waits names T (course k z first) w start.commits engine.commits (g.S.LinkStore.heap engine.machine.store) → start.commits ≤ engine.commits → engine.commits < start.commits + most_turns → WaitsOn names T (course k z first) w start.commits c.wait.result n' h') (λ i. (keeps i).plain.now.rules) (λ i. (keeps i).size)
    (c.wait.ensures.waits k gives' names known first start.commits) at (omega (arith, e)) (omega (arith, e, l)) in
    subst (λ o. WaitsOn names table over w start.commits o n' h') c.in-Some.is turn

pub returns-in-Some-clause-keeps : goal.returns-in-Some-clause-keeps
returns-in-Some-clause-keeps g c = c.wait.ensures.keeps ∙ (λ i. record (c.loop.invariant.keeps i) { machine = c.wait.new.self.engine.machine; commits = c.wait.new.self.engine.commits })

pub loop-preserved : goal.loop-preserved
loop-preserved g c =
    let start = c.args.self.now.engine in
    let engine = c.loop.self.engine in
    let keeps = c.loop.invariant.keeps in
    let n' = c.wait.new.self.engine.commits in
    let h' = g.S.LinkStore.heap c.wait.new.self.engine.machine.store in
    let l = c.loop-test.true in
    let e = c.loop.invariant.count in
    let one_more : n' ≡ engine.commits + 1 = subst (λ o. n' ≡ engine.commits + counted o) c.in_default.is c.wait.ensures.counts in
    record {
      run = c.wait.ensures.again;
      chooser = subst (AnswersBelow (λ f t m. g.F.Fn.pre f (t, (m, tt))) (λ f t m r. g.F.Fn.post f (t, (m, tt)) r)) (sym (λ i. (c.wait.ensures.keeps i).chooser.f)) c.loop.invariant.chooser;
      keeps = c.wait.ensures.keeps ∙ (λ i. record (keeps i) { machine = c.wait.new.self.engine.machine; commits = n' });
      count = omega (arith, one_more, e);
      waits = λ k gives names known first s. (
          let table = start.plain.now.rules in
          let over = course k start.size first in
          let w = wish c.args.functor c.args.stop.now.op c.args.stop.now.n in
          let at = c.loop.invariant.waits k gives names known first s in
          let gives' = subst (λ f. Gives (λ f t m r. g.F.Fn.post f (t, (m, tt)) r) f k) (sym (λ i. (keeps i).chooser.f)) gives in
          let turn = moved_to (λ T z. Waits names T (course k z first) w start.commits engine.commits (g.S.LinkStore.heap engine.machine.store) → start.commits ≤ engine.commits → engine.commits < start.commits + most_turns → WaitsOn names T (course k z first) w start.commits c.wait.result n' h') (λ i. (keeps i).plain.now.rules) (λ i. (keeps i).size)
          (c.wait.ensures.waits k gives' names known first start.commits) at (omega (arith, e)) (omega (arith, e, l)) in
          subst (λ o. WaitsOn names table over w start.commits o n' h') c.in_default.is turn);
    }

pub returns-then-met-clause-waited : goal.returns-then-met-clause-waited
returns-then-met-clause-waited g c k gives names first known s =
    let start = c.args.self.now.engine in
    let engine = c.loop.self.engine in
    let keeps = c.loop.invariant.keeps in
    let h = g.S.LinkStore.heap engine.machine.store in
    let table = start.plain.now.rules in
    let over = course k start.size first in
    let w = wish c.args.functor c.args.stop.now.op c.args.stop.now.n in
    let f = c.loop-test.false in
    let l = c.loop.auto in
    let e = c.loop.invariant.count in
    let at = c.loop.invariant.waits k gives names known first s in
    let holds : HoldsRegion names engine.plain.now.rules h at.stands.solid = subst (λ T. HoldsRegion names T h at.stands.solid) (sym (λ i. (keeps i).plain.now.rules)) at.stands.holds in
    moved (λ n i. StandsWaited names table over w start.commits stop.Met n i) (λ i. (c.is_met-met.ensures.keeps i).commits) c.is_met-met.ensures.kept
    (waits_met names table over w start.commits engine.commits h at (omega (arith, e)) (omega (arith, e)) (c.is_met-met.ensures.met c.if-met.true names at.stands.solid holds known))

pub returns-then-met-clause-keeps : goal.returns-then-met-clause-keeps
returns-then-met-clause-keeps g c =
    let asked = c.is_met-met.ensures.keeps in
    let engine = c.is_met-met.new.self.engine in
    asked ∙ sym (λ i. record c.loop.self.engine { machine = engine.machine; commits = (asked i).commits }) ∙ (λ i. record (c.loop.invariant.keeps i) { machine = engine.machine; commits = engine.commits })

pub returns-else-met-clause-waited : goal.returns-else-met-clause-waited
returns-else-met-clause-waited g c k gives names first known s =
    let start = c.args.self.now.engine in
    let engine = c.loop.self.engine in
    let keeps = c.loop.invariant.keeps in
    let h = g.S.LinkStore.heap engine.machine.store in
    let table = start.plain.now.rules in
    let over = course k start.size first in
    let w = wish c.args.functor c.args.stop.now.op c.args.stop.now.n in
    let f = c.loop-test.false in
    let l = c.loop.auto in
    let e = c.loop.invariant.count in
    let at = c.loop.invariant.waits k gives names known first s in
    let holds : HoldsRegion names engine.plain.now.rules h at.stands.solid = subst (λ T. HoldsRegion names T h at.stands.solid) (sym (λ i. (keeps i).plain.now.rules)) at.stands.holds in
    moved (λ n i. StandsWaited names table over w start.commits stop.Limit n i) (λ i. (c.is_met-met.ensures.keeps i).commits) c.is_met-met.ensures.kept
    (waits_limit names table over w start.commits engine.commits h at (omega (arith, e)) (c.is_met-met.ensures.unmet c.if-met.false names at.stands.solid holds known))

pub returns-else-met-clause-keeps : goal.returns-else-met-clause-keeps
returns-else-met-clause-keeps g c =
    let asked = c.is_met-met.ensures.keeps in
    let engine = c.is_met-met.new.self.engine in
    asked ∙ sym (λ i. record c.loop.self.engine { machine = engine.machine; commits = (asked i).commits }) ∙ (λ i. record (c.loop.invariant.keeps i) { machine = engine.machine; commits = engine.commits })
