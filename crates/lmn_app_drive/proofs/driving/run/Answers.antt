use Rattle.std.proofs.Common.{ℕ, ◌≡◌, ◌+◌, ◌<◌, refl, sym, ap, subst, ◌∙◌, arith}
use Rattle.lmn_schedule.specs.Held.{EngineCanTurn, HoldsRegion}
use Rattle.lmn_io.proofs.TakingLemmas.{none_more, none_then_last}
use Rattle.lmn_order.specs.Answers.{AnswersBelow}
use Rattle.lmn_schedule.specs.Turning.{Gives}
use Rattle.lmn_app_drive.specs.Driving.{Broke, CountsCommit, RunInput, Going, StepsOn, Stopped, given_by_engine}
use Rattle.lmn_adequacy.specs.Runs.{Chooser}
use Rattle.lmn_app_drive.specs.Asking.{AsksFew}
use Rattle.lmn_app_drive.specs.AskingOn.{AskedSoFar, AsksOn}
use Rattle.lmn_app_drive.specs.Answers.{BrokeByAnswers, GoingByAnswers, StepsOnByAnswers, StoppedByAnswers}
use Rattle.lmn_app_runs.specs.declared.stop.Stop.TheVariants as stop
use Rattle.lmn_schedule_strategy.specs.Counting.{CountsAsked}
use Rattle.lmn_app_drive.proofs.Asked.{asked_all, asked_none, asked_still, carried_codes}
use Rattle.lmn_app_drive.proofs.Answered.{carried, first_broke, first_going, irreducible_stops, reducible_stops}
use Rattle.lmn_app_drive.proofs.Goings.{broke_first, going_first, stops_budget, stops_done}
use Rattle.lmn_app_drive.proofs.Writings.{at_err}
use Rattle.lmn_app_drive.proofs.driving.run.Goals as goal
use Rattle.lmn_store_heap.proofs.Common.{moved}

pub returns-in_err-write_traced-clause-stops : goal.returns-in_err-write_traced-clause-stops
returns-in_err-write_traced-clause-stops g c k gives solid held =
    let names = c.args.names.now in
    let table = c.args.plain.now.rules in
    let options = c.args.options.now in
    let told = g.O.Sink.told c.args.out.now in
    let r : RunInput = given_by_engine names table c.args.engine.now.size options k solid in
    let h = g.S.LinkStore.heap c.args.engine.now.machine.store in
    let new = g.O.Sink.told c.write_traced.new.out in
    at_err _ c.from_residual.result _ _ c.from_residual.ensures.1
    (moved (λ n h. Broke r n h told new) (λ i. (c.write_traced.ensures.keeps i).commits) c.write_traced.ensures.kept
    (broke_first r c.args.engine.now.commits h told new c.requires.commits held (λ bytes is. c.in_err-write_traced.ensures.writes.prefix bytes is)))

pub returns-in_err-write_traced-clause-again : goal.returns-in_err-write_traced-clause-again
returns-in_err-write_traced-clause-again g c = subst (λ h. EngineCanTurn h c.args.plain.now.rules c.args.engine.now.codes c.args.engine.now.size) (sym c.write_traced.ensures.kept) c.requires.run

pub returns-in_err-write_traced-clause-keeps : goal.returns-in_err-write_traced-clause-keeps
returns-in_err-write_traced-clause-keeps g c =
    let wrote = c.write_traced.ensures.keeps in
    wrote ∙ sym (λ i. record c.args.engine.now { machine = c.write_traced.new.engine.machine; commits = (wrote i).commits })

pub returns-in_err-write_traced-clause-rose : goal.returns-in_err-write_traced-clause-rose
returns-in_err-write_traced-clause-rose g c = at_err _ c.from_residual.result _ _ c.from_residual.ensures.1 c.in_err-write_traced.ensures.writes.rose

pub loop-init : goal.loop-init
loop-init g c =
    let names = c.args.names.now in
    let table = c.args.plain.now.rules in
    let options = c.args.options.now in
    let told = g.O.Sink.told c.args.out.now in
    let h = g.S.LinkStore.heap c.args.engine.now.machine.store in
    let new = g.O.Sink.told c.write_traced.new.out in
    let wrote = c.write_traced.ensures.keeps in
    record {
      run = subst (λ h. EngineCanTurn h table c.args.engine.now.codes c.args.engine.now.size) (sym c.write_traced.ensures.kept) c.requires.run;
      keeps = wrote ∙ sym (λ i. record c.args.engine.now { machine = c.write_traced.new.engine.machine; commits = (wrote i).commits });
      count = (λ i. (wrote i).commits) ∙ c.requires.commits;
      same = c.in_ok-write_traced.ensures.writes.same;
      going = λ k gives solid held. (let r : RunInput = given_by_engine names table c.args.engine.now.size options k solid in
          moved (λ n h. Going r n h told new) (λ i. (wrote i).commits) c.write_traced.ensures.kept
          (going_first r c.args.engine.now.commits h told new c.requires.commits held (λ bytes is. c.in_ok-write_traced.ensures.writes.took bytes is)));
      answered = λ solid held. moved (λ n h. GoingByAnswers (λ t m r. g.F.Fn.post c.args.engine.now.chooser.f (t, (m, tt)) r) (λ k. given_by_engine names table c.args.engine.now.size options k solid) n h told new c.args.steps.now c.args.steps.now)
          (λ i. (wrote i).commits) c.write_traced.ensures.kept
          (first_going (λ t m r. g.F.Fn.post c.args.engine.now.chooser.f (t, (m, tt)) r) names table c.args.engine.now.size options solid c.args.engine.now.commits h told new c.args.steps.now c.requires.commits held (λ bytes is. c.in_ok-write_traced.ensures.writes.took bytes is));
      asks = moved (λ n h'. AskedSoFar (λ t m r. g.F.Fn.post c.args.engine.now.chooser.f (t, (m, tt)) r) table c.args.engine.now.codes c.args.engine.now.size h n h' c.args.steps.now c.args.steps.now) ((λ i. (wrote i).commits) ∙ c.requires.commits) c.write_traced.ensures.kept
          (asked_none (λ t m r. g.F.Fn.post c.args.engine.now.chooser.f (t, (m, tt)) r) table c.args.engine.now.codes c.args.engine.now.size h c.args.steps.now);
    }

pub step-requires-clause-run : goal.step-requires-clause-run
step-requires-clause-run g c =
    let keeps = c.loop.invariant.keeps in
    let h = g.S.LinkStore.heap c.loop.engine.machine.store in
    let table = c.args.plain.now.rules in
    subst (λ codes. EngineCanTurn h table codes c.loop.engine.size) (sym (λ i. (keeps i).codes)) (subst (λ size. EngineCanTurn h table c.args.engine.now.codes size) (sym (λ i. (keeps i).size)) c.loop.invariant.run)

pub step-requires-clause-plain : goal.step-requires-clause-plain
step-requires-clause-plain g c = (λ i. (c.loop.invariant.keeps i).plain.now) ∙ c.requires.plain

pub step-requires-clause-chooser : goal.step-requires-clause-chooser
step-requires-clause-chooser g c = subst (AnswersBelow (λ f t m. g.F.Fn.pre f (t, (m, tt))) (λ f t m r. g.F.Fn.post f (t, (m, tt)) r)) (sym (λ i. (c.loop.invariant.keeps i).chooser.f)) c.requires.chooser

pub step-requires-clause-commits : goal.step-requires-clause-commits
step-requires-clause-commits g c =
    let l = c.loop-test.true in
    let e = c.loop.invariant.count in
    let b = c.requires.budget in
    omega (arith, l, e, b)

pub returns-in_err-stop-clause-stops : goal.returns-in_err-stop-clause-stops
returns-in_err-stop-clause-stops g c k gives solid held =
    let names = c.args.names.now in
    let table = c.args.plain.now.rules in
    let options = c.args.options.now in
    let told = g.O.Sink.told c.args.out.now in
    let size : c.loop.engine.size ≡ c.args.engine.now.size = λ i. (c.loop.invariant.keeps i).size in
    let below : c.loop.engine.commits < options.budget = (let l = c.loop-test.true in let e = c.loop.invariant.count in omega (arith, l, e)) in
    let gives' = subst (λ f. Gives (λ f t m r. g.F.Fn.post f (t, (m, tt)) r) f k) (sym (λ i. (c.loop.invariant.keeps i).chooser.f)) gives in
    let going = subst (λ n. Going (given_by_engine names table n options k solid) c.loop.engine.commits (g.S.LinkStore.heap c.loop.engine.machine.store) told (g.O.Sink.told c.loop.out)) (sym size) (c.loop.invariant.going k gives solid held) in
    at_err _ c.from_residual-in_err-stop.result _ _ c.from_residual-in_err-stop.ensures.1
    (subst (λ n. Broke (given_by_engine names table n options k solid) c.step.new.engine.commits (g.S.LinkStore.heap c.step.new.engine.machine.store) told (g.O.Sink.told c.step.new.out)) size (c.in_err-stop.ensures.goes k gives' solid told below going))

pub returns-in_err-stop-clause-again : goal.returns-in_err-stop-clause-again
returns-in_err-stop-clause-again g c =
    subst (λ size. EngineCanTurn (g.S.LinkStore.heap c.step.new.engine.machine.store) c.args.plain.now.rules c.args.engine.now.codes size) (λ i. (c.loop.invariant.keeps i).size)
    (subst (λ codes. EngineCanTurn (g.S.LinkStore.heap c.step.new.engine.machine.store) c.args.plain.now.rules codes c.loop.engine.size) (λ i. (c.loop.invariant.keeps i).codes) c.step.ensures.again)

pub returns-in_err-stop-clause-keeps : goal.returns-in_err-stop-clause-keeps
returns-in_err-stop-clause-keeps g c = c.step.ensures.keeps ∙ (λ i. record (c.loop.invariant.keeps i) { machine = c.step.new.engine.machine; commits = c.step.new.engine.commits })

pub returns-in_err-stop-clause-rose : goal.returns-in_err-stop-clause-rose
returns-in_err-stop-clause-rose g c = at_err _ c.from_residual-in_err-stop.result _ _ c.from_residual-in_err-stop.ensures.1 (none_then_last (g.O.Sink.faults c.args.out.now) (g.O.Sink.faults c.loop.out) (g.O.Sink.faults c.step.new.out) c.loop.invariant.same c.in_err-stop.ensures.rose)

pub returns-in-Some-clause-stops : goal.returns-in-Some-clause-stops
returns-in-Some-clause-stops g c k gives solid held =
    let names = c.args.names.now in
    let table = c.args.plain.now.rules in
    let options = c.args.options.now in
    let told = g.O.Sink.told c.args.out.now in
    let size : c.loop.engine.size ≡ c.args.engine.now.size = λ i. (c.loop.invariant.keeps i).size in
    let below : c.loop.engine.commits < options.budget = (let l = c.loop-test.true in let e = c.loop.invariant.count in omega (arith, l, e)) in
    let gives' = subst (λ f. Gives (λ f t m r. g.F.Fn.post f (t, (m, tt)) r) f k) (sym (λ i. (c.loop.invariant.keeps i).chooser.f)) gives in
    let going = subst (λ n. Going (given_by_engine names table n options k solid) c.loop.engine.commits (g.S.LinkStore.heap c.loop.engine.machine.store) told (g.O.Sink.told c.loop.out)) (sym size) (c.loop.invariant.going k gives solid held) in
    let r : RunInput = given_by_engine names table c.loop.engine.size options k solid in
    subst (λ n. Stopped (given_by_engine names table n options k solid) c.step.new.engine.commits (g.S.LinkStore.heap c.step.new.engine.machine.store) c.in-Some.stop told (g.O.Sink.told c.step.new.out)) size
    (subst (StepsOn r c.step.new.engine.commits (g.S.LinkStore.heap c.step.new.engine.machine.store) told (g.O.Sink.told c.step.new.out)) c.in-Some.is (c.in_ok-stop.ensures.goes k gives' solid told below going))

pub returns-in-Some-clause-again : goal.returns-in-Some-clause-again
returns-in-Some-clause-again g c =
    subst (λ size. EngineCanTurn (g.S.LinkStore.heap c.step.new.engine.machine.store) c.args.plain.now.rules c.args.engine.now.codes size) (λ i. (c.loop.invariant.keeps i).size)
    (subst (λ codes. EngineCanTurn (g.S.LinkStore.heap c.step.new.engine.machine.store) c.args.plain.now.rules codes c.loop.engine.size) (λ i. (c.loop.invariant.keeps i).codes) c.step.ensures.again)

pub returns-in-Some-clause-keeps : goal.returns-in-Some-clause-keeps
returns-in-Some-clause-keeps g c = c.step.ensures.keeps ∙ (λ i. record (c.loop.invariant.keeps i) { machine = c.step.new.engine.machine; commits = c.step.new.engine.commits })

pub returns-in-Some-clause-same : goal.returns-in-Some-clause-same
returns-in-Some-clause-same g c = none_more (g.O.Sink.faults c.args.out.now) (g.O.Sink.faults c.loop.out) (g.O.Sink.faults c.step.new.out) c.loop.invariant.same c.in_ok-stop.ensures.same

pub loop-preserved : goal.loop-preserved
loop-preserved g c =
    let names = c.args.names.now in
    let table = c.args.plain.now.rules in
    let options = c.args.options.now in
    let told = g.O.Sink.told c.args.out.now in
    record {
      run = subst (λ size. EngineCanTurn (g.S.LinkStore.heap c.step.new.engine.machine.store) c.args.plain.now.rules c.args.engine.now.codes size) (λ i. (c.loop.invariant.keeps i).size)
          (subst (λ codes. EngineCanTurn (g.S.LinkStore.heap c.step.new.engine.machine.store) c.args.plain.now.rules codes c.loop.engine.size) (λ i. (c.loop.invariant.keeps i).codes) c.step.ensures.again);
      keeps = c.step.ensures.keeps ∙ (λ i. record (c.loop.invariant.keeps i) { machine = c.step.new.engine.machine; commits = c.step.new.engine.commits });
      count = subst (λ o. CountsCommit o c.loop.engine.commits c.step.new.engine.commits) c.in_default.is c.in_ok-stop.ensures.counts ∙ ap (λ n. n + 1) c.loop.invariant.count;
      same = none_more (g.O.Sink.faults c.args.out.now) (g.O.Sink.faults c.loop.out) (g.O.Sink.faults c.step.new.out) c.loop.invariant.same c.in_ok-stop.ensures.same;
      going = λ k gives solid held. (
          let size : c.loop.engine.size ≡ c.args.engine.now.size = λ i. (c.loop.invariant.keeps i).size in
          let below : c.loop.engine.commits < options.budget = (let l = c.loop-test.true in let e = c.loop.invariant.count in omega (arith, l, e)) in
          let gives' = subst (λ f. Gives (λ f t m r. g.F.Fn.post f (t, (m, tt)) r) f k) (sym (λ i. (c.loop.invariant.keeps i).chooser.f)) gives in
          let going = subst (λ n. Going (given_by_engine names table n options k solid) c.loop.engine.commits (g.S.LinkStore.heap c.loop.engine.machine.store) told (g.O.Sink.told c.loop.out)) (sym size) (c.loop.invariant.going k gives solid held) in
          subst (λ n. Going (given_by_engine names table n options k solid) c.step.new.engine.commits (g.S.LinkStore.heap c.step.new.engine.machine.store) told (g.O.Sink.told c.step.new.out)) size
          (subst (StepsOn (given_by_engine names table c.loop.engine.size options k solid) c.step.new.engine.commits (g.S.LinkStore.heap c.step.new.engine.machine.store) told (g.O.Sink.told c.step.new.out)) c.in_default.is (c.in_ok-stop.ensures.goes k gives' solid told below going)));
      answered = λ solid held. (
          let size : c.loop.engine.size ≡ c.args.engine.now.size = λ i. (c.loop.invariant.keeps i).size in
          let chooser : c.loop.engine.chooser.f ≡ c.args.engine.now.chooser.f = λ i. (c.loop.invariant.keeps i).chooser.f in
          let below : c.loop.engine.commits < options.budget = (let l = c.loop-test.true in let e = c.loop.invariant.count in omega (arith, l, e)) in
          let going = carried (λ f n. GoingByAnswers (λ t m r. g.F.Fn.post f (t, (m, tt)) r) (λ k. given_by_engine names table n options k solid) c.loop.engine.commits (g.S.LinkStore.heap c.loop.engine.machine.store) told (g.O.Sink.told c.loop.out) c.args.steps.now c.loop.steps)
          (sym chooser) (sym size) (c.loop.invariant.answered solid held) in
          carried (λ f n. GoingByAnswers (λ t m r. g.F.Fn.post f (t, (m, tt)) r) (λ k. given_by_engine names table n options k solid) c.step.new.engine.commits (g.S.LinkStore.heap c.step.new.engine.machine.store) told (g.O.Sink.told c.step.new.out) c.args.steps.now c.step.new.steps)
          chooser size
          (subst (StepsOnByAnswers (λ t m r. g.F.Fn.post c.loop.engine.chooser.f (t, (m, tt)) r) (λ k. given_by_engine names table c.loop.engine.size options k solid) c.step.new.engine.commits (g.S.LinkStore.heap c.step.new.engine.machine.store) told (g.O.Sink.told c.step.new.out) c.args.steps.now c.step.new.steps)
          c.in_default.is (c.in_ok-stop.ensures.answered solid told c.args.steps.now below going)));
      asks = (
          let table = c.args.plain.now.rules in
          let h0 = g.S.LinkStore.heap c.args.engine.now.machine.store in
          let size : c.loop.engine.size ≡ c.args.engine.now.size = λ i. (c.loop.invariant.keeps i).size in
          let codes : c.loop.engine.codes ≡ c.args.engine.now.codes = λ i. (c.loop.invariant.keeps i).codes in
          let chooser : c.loop.engine.chooser.f ≡ c.args.engine.now.chooser.f = λ i. (c.loop.invariant.keeps i).chooser.f in
          let so_far = carried_codes (λ f codes n. AskedSoFar (λ t m r. g.F.Fn.post f (t, (m, tt)) r) table codes n h0 c.loop.engine.commits (g.S.LinkStore.heap c.loop.engine.machine.store) c.args.steps.now c.loop.steps)
          (sym chooser) (sym codes) (sym size) c.loop.invariant.asks in
          carried_codes (λ f codes n. AskedSoFar (λ t m r. g.F.Fn.post f (t, (m, tt)) r) table codes n h0 c.step.new.engine.commits (g.S.LinkStore.heap c.step.new.engine.machine.store) c.args.steps.now c.step.new.steps)
          chooser codes size
          (subst (AsksOn (λ t m r. g.F.Fn.post c.loop.engine.chooser.f (t, (m, tt)) r) table c.loop.engine.codes c.loop.engine.size h0 c.step.new.engine.commits (g.S.LinkStore.heap c.step.new.engine.machine.store) c.args.steps.now c.step.new.steps)
          c.in_default.is (c.in_ok-stop.ensures.asks h0 c.args.steps.now so_far)));
    }

pub reducible-requires : goal.reducible-requires
reducible-requires g c =
    let keeps = c.loop.invariant.keeps in
    let h = g.S.LinkStore.heap c.loop.engine.machine.store in
    let table = c.args.plain.now.rules in
    let run : EngineCanTurn h table c.loop.engine.codes c.loop.engine.size =
    subst (λ codes. EngineCanTurn h table codes c.loop.engine.size) (sym (λ i. (keeps i).codes)) (subst (λ size. EngineCanTurn h table c.args.engine.now.codes size) (sym (λ i. (keeps i).size)) c.loop.invariant.run) in
    record { run = subst (λ rules. EngineCanTurn h rules c.loop.engine.codes c.loop.engine.size) (sym ((λ i. (keeps i).plain.now.rules) ∙ (λ i. (c.requires.plain i).rules))) run }

pub returns-then-reducible-clause-stops : goal.returns-then-reducible-clause-stops
returns-then-reducible-clause-stops g c k gives solid held =
    let names = c.args.names.now in
    let table = c.args.plain.now.rules in
    let options = c.args.options.now in
    let told = g.O.Sink.told c.args.out.now in
    let r : RunInput = given_by_engine names table c.args.engine.now.size options k solid in
    let keeps = c.loop.invariant.keeps in
    let h = g.S.LinkStore.heap c.loop.engine.machine.store in
    let h' = g.S.LinkStore.heap c.reducible.new.self.machine.store in
    let new = g.O.Sink.told c.loop.out in
    let s = c.loop.invariant.going k gives solid held in
    let e : c.loop.engine.commits ≡ options.budget = (let f = c.loop-test.false in let l = c.loop.auto in let n = c.loop.invariant.count in omega (arith, n)) in
    let rules : c.loop.engine.plain.now.rules ≡ table = (λ i. (keeps i).plain.now.rules) ∙ (λ i. (c.requires.plain i).rules) in
    let holds = subst (λ T. HoldsRegion names T h s.ran.last) (sym rules) s.ran.holds in
    moved (λ n h. Stopped r n h stop.Budget told new) {h' = h'} (λ i. (c.reducible.ensures.keeps i).commits) refl
    (stops_budget r c.loop.engine.commits h h' told new s c.reducible.ensures.same e (c.reducible.ensures.yes c.if-reducible.true names s.ran.last holds))

pub returns-then-reducible-clause-again : goal.returns-then-reducible-clause-again
returns-then-reducible-clause-again g c = subst (λ h. EngineCanTurn h c.args.plain.now.rules c.args.engine.now.codes c.args.engine.now.size) (sym c.reducible.ensures.same) c.loop.invariant.run

pub returns-then-reducible-clause-keeps : goal.returns-then-reducible-clause-keeps
returns-then-reducible-clause-keeps g c =
    let asked = c.reducible.ensures.keeps in
    let engine = c.reducible.new.self in
    asked ∙ sym (λ i. record c.loop.engine { machine = engine.machine; commits = (asked i).commits }) ∙ (λ i. record (c.loop.invariant.keeps i) { machine = engine.machine; commits = engine.commits })

pub returns-then-reducible-clause-same : goal.returns-then-reducible-clause-same
returns-then-reducible-clause-same g c = c.loop.invariant.same

pub returns-else-reducible-clause-stops : goal.returns-else-reducible-clause-stops
returns-else-reducible-clause-stops g c k gives solid held =
    let names = c.args.names.now in
    let table = c.args.plain.now.rules in
    let options = c.args.options.now in
    let told = g.O.Sink.told c.args.out.now in
    let r : RunInput = given_by_engine names table c.args.engine.now.size options k solid in
    let keeps = c.loop.invariant.keeps in
    let h = g.S.LinkStore.heap c.loop.engine.machine.store in
    let h' = g.S.LinkStore.heap c.reducible.new.self.machine.store in
    let new = g.O.Sink.told c.loop.out in
    let s = c.loop.invariant.going k gives solid held in
    let e : c.loop.engine.commits ≡ options.budget = (let f = c.loop-test.false in let l = c.loop.auto in let n = c.loop.invariant.count in omega (arith, n)) in
    let rules : c.loop.engine.plain.now.rules ≡ table = (λ i. (keeps i).plain.now.rules) ∙ (λ i. (c.requires.plain i).rules) in
    let holds = subst (λ T. HoldsRegion names T h s.ran.last) (sym rules) s.ran.holds in
    moved (λ n h. Stopped r n h stop.Irreducible told new) {h' = h'} (λ i. (c.reducible.ensures.keeps i).commits) refl
    (stops_done r c.loop.engine.commits h h' told new s c.reducible.ensures.same (c.reducible.ensures.no c.if-reducible.false names s.ran.last holds))

pub returns-else-reducible-clause-again : goal.returns-else-reducible-clause-again
returns-else-reducible-clause-again g c = subst (λ h. EngineCanTurn h c.args.plain.now.rules c.args.engine.now.codes c.args.engine.now.size) (sym c.reducible.ensures.same) c.loop.invariant.run

pub returns-else-reducible-clause-keeps : goal.returns-else-reducible-clause-keeps
returns-else-reducible-clause-keeps g c =
    let asked = c.reducible.ensures.keeps in
    let engine = c.reducible.new.self in
    asked ∙ sym (λ i. record c.loop.engine { machine = engine.machine; commits = (asked i).commits }) ∙ (λ i. record (c.loop.invariant.keeps i) { machine = engine.machine; commits = engine.commits })

pub returns-else-reducible-clause-same : goal.returns-else-reducible-clause-same
returns-else-reducible-clause-same g c = c.loop.invariant.same

pub returns-in_err-write_traced-clause-answered : goal.returns-in_err-write_traced-clause-answered
returns-in_err-write_traced-clause-answered g c solid held =
    let names = c.args.names.now in
    let table = c.args.plain.now.rules in
    let options = c.args.options.now in
    let told = g.O.Sink.told c.args.out.now in
    let h = g.S.LinkStore.heap c.args.engine.now.machine.store in
    let new = g.O.Sink.told c.write_traced.new.out in
    at_err _ c.from_residual.result _ _ c.from_residual.ensures.1
    (moved (λ n h. BrokeByAnswers (λ t m r. g.F.Fn.post c.args.engine.now.chooser.f (t, (m, tt)) r) (λ k. given_by_engine names table c.args.engine.now.size options k solid) n h told new c.args.steps.now c.args.steps.now)
    (λ i. (c.write_traced.ensures.keeps i).commits) c.write_traced.ensures.kept
    (first_broke (λ t m r. g.F.Fn.post c.args.engine.now.chooser.f (t, (m, tt)) r) names table c.args.engine.now.size options solid c.args.engine.now.commits h told new c.args.steps.now c.requires.commits held
    (λ bytes is. c.in_err-write_traced.ensures.writes.prefix bytes is)))

pub returns-in_err-stop-clause-answered : goal.returns-in_err-stop-clause-answered
returns-in_err-stop-clause-answered g c solid held =
    let names = c.args.names.now in
    let table = c.args.plain.now.rules in
    let options = c.args.options.now in
    let told = g.O.Sink.told c.args.out.now in
    let size : c.loop.engine.size ≡ c.args.engine.now.size = λ i. (c.loop.invariant.keeps i).size in
    let chooser : c.loop.engine.chooser.f ≡ c.args.engine.now.chooser.f = λ i. (c.loop.invariant.keeps i).chooser.f in
    let below : c.loop.engine.commits < options.budget = (let l = c.loop-test.true in let e = c.loop.invariant.count in omega (arith, l, e)) in
    let going = carried (λ f n. GoingByAnswers (λ t m r. g.F.Fn.post f (t, (m, tt)) r) (λ k. given_by_engine names table n options k solid) c.loop.engine.commits (g.S.LinkStore.heap c.loop.engine.machine.store) told (g.O.Sink.told c.loop.out) c.args.steps.now c.loop.steps)
    (sym chooser) (sym size) (c.loop.invariant.answered solid held) in
    at_err _ c.from_residual-in_err-stop.result _ _ c.from_residual-in_err-stop.ensures.1
    (carried (λ f n. BrokeByAnswers (λ t m r. g.F.Fn.post f (t, (m, tt)) r) (λ k. given_by_engine names table n options k solid) c.step.new.engine.commits (g.S.LinkStore.heap c.step.new.engine.machine.store) told (g.O.Sink.told c.step.new.out) c.args.steps.now c.step.new.steps)
    chooser size (c.in_err-stop.ensures.answered solid told c.args.steps.now below going))

pub returns-in-Some-clause-answered : goal.returns-in-Some-clause-answered
returns-in-Some-clause-answered g c solid held =
    let names = c.args.names.now in
    let table = c.args.plain.now.rules in
    let options = c.args.options.now in
    let told = g.O.Sink.told c.args.out.now in
    let size : c.loop.engine.size ≡ c.args.engine.now.size = λ i. (c.loop.invariant.keeps i).size in
    let chooser : c.loop.engine.chooser.f ≡ c.args.engine.now.chooser.f = λ i. (c.loop.invariant.keeps i).chooser.f in
    let below : c.loop.engine.commits < options.budget = (let l = c.loop-test.true in let e = c.loop.invariant.count in omega (arith, l, e)) in
    let going = carried (λ f n. GoingByAnswers (λ t m r. g.F.Fn.post f (t, (m, tt)) r) (λ k. given_by_engine names table n options k solid) c.loop.engine.commits (g.S.LinkStore.heap c.loop.engine.machine.store) told (g.O.Sink.told c.loop.out) c.args.steps.now c.loop.steps)
    (sym chooser) (sym size) (c.loop.invariant.answered solid held) in
    carried (λ f n. StoppedByAnswers (λ t m r. g.F.Fn.post f (t, (m, tt)) r) (λ k. given_by_engine names table n options k solid) c.step.new.engine.commits (g.S.LinkStore.heap c.step.new.engine.machine.store) c.in-Some.stop told (g.O.Sink.told c.step.new.out) c.args.steps.now c.step.new.steps)
    chooser size
    (subst (StepsOnByAnswers (λ t m r. g.F.Fn.post c.loop.engine.chooser.f (t, (m, tt)) r) (λ k. given_by_engine names table c.loop.engine.size options k solid) c.step.new.engine.commits (g.S.LinkStore.heap c.step.new.engine.machine.store) told (g.O.Sink.told c.step.new.out) c.args.steps.now c.step.new.steps)
    c.in-Some.is (c.in_ok-stop.ensures.answered solid told c.args.steps.now below going))

pub returns-then-reducible-clause-answered : goal.returns-then-reducible-clause-answered
returns-then-reducible-clause-answered g c solid held =
    let names = c.args.names.now in
    let table = c.args.plain.now.rules in
    let options = c.args.options.now in
    let told = g.O.Sink.told c.args.out.now in
    let may : ℕ → ℕ → ℕ → Type 0 = λ t m r. g.F.Fn.post c.args.engine.now.chooser.f (t, (m, tt)) r in
    let input : Chooser → RunInput = λ k. given_by_engine names table c.args.engine.now.size options k solid in
    let keeps = c.loop.invariant.keeps in
    let h = g.S.LinkStore.heap c.loop.engine.machine.store in
    let h' = g.S.LinkStore.heap c.reducible.new.self.machine.store in
    let new = g.O.Sink.told c.loop.out in
    let b = c.loop.invariant.answered solid held in
    let S = b.going.ran.last in
    let run : EngineCanTurn h table c.loop.engine.codes c.loop.engine.size =
    subst (λ codes. EngineCanTurn h table codes c.loop.engine.size) (sym (λ i. (keeps i).codes)) (subst (λ size. EngineCanTurn h table c.args.engine.now.codes size) (sym (λ i. (keeps i).size)) c.loop.invariant.run) in
    let counts = c.counts_are_alike.ensures names table h S c.loop.engine.codes c.loop.engine.size b.going.ran.holds run 0 c.loop.steps c.reducible.new.steps c.reducible.ensures.steps in
    let e : c.loop.engine.commits ≡ options.budget = (let f = c.loop-test.false in let l = c.loop.auto in let n = c.loop.invariant.count in omega (arith, n)) in
    let rules : c.loop.engine.plain.now.rules ≡ table = (λ i. (keeps i).plain.now.rules) ∙ (λ i. (c.requires.plain i).rules) in
    let holds = subst (λ T. HoldsRegion names T h S) (sym rules) b.going.ran.holds in
    moved (λ n h. StoppedByAnswers may input n h stop.Budget told new c.args.steps.now c.reducible.new.steps) {h' = h'} (λ i. (c.reducible.ensures.keeps i).commits) refl
    (reducible_stops may names table c.args.engine.now.size options solid c.loop.engine.commits h h' told new c.args.steps.now c.loop.steps c.reducible.new.steps b counts c.reducible.ensures.same e (c.reducible.ensures.yes c.if-reducible.true names S holds))

pub returns-else-reducible-clause-answered : goal.returns-else-reducible-clause-answered
returns-else-reducible-clause-answered g c solid held =
    let names = c.args.names.now in
    let table = c.args.plain.now.rules in
    let options = c.args.options.now in
    let told = g.O.Sink.told c.args.out.now in
    let may : ℕ → ℕ → ℕ → Type 0 = λ t m r. g.F.Fn.post c.args.engine.now.chooser.f (t, (m, tt)) r in
    let input : Chooser → RunInput = λ k. given_by_engine names table c.args.engine.now.size options k solid in
    let keeps = c.loop.invariant.keeps in
    let h = g.S.LinkStore.heap c.loop.engine.machine.store in
    let h' = g.S.LinkStore.heap c.reducible.new.self.machine.store in
    let new = g.O.Sink.told c.loop.out in
    let b = c.loop.invariant.answered solid held in
    let S = b.going.ran.last in
    let run : EngineCanTurn h table c.loop.engine.codes c.loop.engine.size =
    subst (λ codes. EngineCanTurn h table codes c.loop.engine.size) (sym (λ i. (keeps i).codes)) (subst (λ size. EngineCanTurn h table c.args.engine.now.codes size) (sym (λ i. (keeps i).size)) c.loop.invariant.run) in
    let counts = c.counts_are_alike.ensures names table h S c.loop.engine.codes c.loop.engine.size b.going.ran.holds run 0 c.loop.steps c.reducible.new.steps c.reducible.ensures.steps in
    let rules : c.loop.engine.plain.now.rules ≡ table = (λ i. (keeps i).plain.now.rules) ∙ (λ i. (c.requires.plain i).rules) in
    let holds = subst (λ T. HoldsRegion names T h S) (sym rules) b.going.ran.holds in
    moved (λ n h. StoppedByAnswers may input n h stop.Irreducible told new c.args.steps.now c.reducible.new.steps) {h' = h'} (λ i. (c.reducible.ensures.keeps i).commits) refl
    (irreducible_stops may names table c.args.engine.now.size options solid c.loop.engine.commits h h' told new c.args.steps.now c.loop.steps c.reducible.new.steps b counts c.reducible.ensures.same (c.reducible.ensures.no c.if-reducible.false names S holds))

pub returns-in_err-write_traced-clause-asks : goal.returns-in_err-write_traced-clause-asks
returns-in_err-write_traced-clause-asks g c =
    let table = c.args.plain.now.rules in
    let codes = c.args.engine.now.codes in
    let size = c.args.engine.now.size in
    let may : ℕ → ℕ → ℕ → Type 0 = λ t m r. g.F.Fn.post c.args.engine.now.chooser.f (t, (m, tt)) r in
    let h = g.S.LinkStore.heap c.args.engine.now.machine.store in
    let s = c.args.steps.now in
    moved (λ n h'. AsksFew may table codes size h n h' s s) ((λ i. (c.write_traced.ensures.keeps i).commits) ∙ c.requires.commits) c.write_traced.ensures.kept
    (asked_all may table codes size h 0 h s s c.requires.run.turn.valid (asked_none may table codes size h s))

pub returns-in_err-stop-clause-asks : goal.returns-in_err-stop-clause-asks
returns-in_err-stop-clause-asks g c =
    let table = c.args.plain.now.rules in
    let h0 = g.S.LinkStore.heap c.args.engine.now.machine.store in
    let size : c.loop.engine.size ≡ c.args.engine.now.size = λ i. (c.loop.invariant.keeps i).size in
    let codes : c.loop.engine.codes ≡ c.args.engine.now.codes = λ i. (c.loop.invariant.keeps i).codes in
    let chooser : c.loop.engine.chooser.f ≡ c.args.engine.now.chooser.f = λ i. (c.loop.invariant.keeps i).chooser.f in
    let so_far = carried_codes (λ f codes n. AskedSoFar (λ t m r. g.F.Fn.post f (t, (m, tt)) r) table codes n h0 c.loop.engine.commits (g.S.LinkStore.heap c.loop.engine.machine.store) c.args.steps.now c.loop.steps)
    (sym chooser) (sym codes) (sym size) c.loop.invariant.asks in
    carried_codes (λ f codes n. AsksFew (λ t m r. g.F.Fn.post f (t, (m, tt)) r) table codes n h0 c.step.new.engine.commits (g.S.LinkStore.heap c.step.new.engine.machine.store) c.args.steps.now c.step.new.steps)
    chooser codes size (c.in_err-stop.ensures.asks h0 c.args.steps.now so_far)

pub returns-in-Some-clause-asks : goal.returns-in-Some-clause-asks
returns-in-Some-clause-asks g c =
    let table = c.args.plain.now.rules in
    let h0 = g.S.LinkStore.heap c.args.engine.now.machine.store in
    let size : c.loop.engine.size ≡ c.args.engine.now.size = λ i. (c.loop.invariant.keeps i).size in
    let codes : c.loop.engine.codes ≡ c.args.engine.now.codes = λ i. (c.loop.invariant.keeps i).codes in
    let chooser : c.loop.engine.chooser.f ≡ c.args.engine.now.chooser.f = λ i. (c.loop.invariant.keeps i).chooser.f in
    let so_far = carried_codes (λ f codes n. AskedSoFar (λ t m r. g.F.Fn.post f (t, (m, tt)) r) table codes n h0 c.loop.engine.commits (g.S.LinkStore.heap c.loop.engine.machine.store) c.args.steps.now c.loop.steps)
    (sym chooser) (sym codes) (sym size) c.loop.invariant.asks in
    carried_codes (λ f codes n. AsksFew (λ t m r. g.F.Fn.post f (t, (m, tt)) r) table codes n h0 c.step.new.engine.commits (g.S.LinkStore.heap c.step.new.engine.machine.store) c.args.steps.now c.step.new.steps)
    chooser codes size
    (subst (AsksOn (λ t m r. g.F.Fn.post c.loop.engine.chooser.f (t, (m, tt)) r) table c.loop.engine.codes c.loop.engine.size h0 c.step.new.engine.commits (g.S.LinkStore.heap c.step.new.engine.machine.store) c.args.steps.now c.step.new.steps)
    c.in-Some.is (c.in_ok-stop.ensures.asks h0 c.args.steps.now so_far))

pub returns-then-reducible-clause-asks : goal.returns-then-reducible-clause-asks
returns-then-reducible-clause-asks g c =
    let table = c.args.plain.now.rules in
    let codes = c.args.engine.now.codes in
    let size = c.args.engine.now.size in
    let may : ℕ → ℕ → ℕ → Type 0 = λ t m r. g.F.Fn.post c.args.engine.now.chooser.f (t, (m, tt)) r in
    let h0 = g.S.LinkStore.heap c.args.engine.now.machine.store in
    let h = g.S.LinkStore.heap c.loop.engine.machine.store in
    let h' = g.S.LinkStore.heap c.reducible.new.self.machine.store in
    let few = subst (λ k. CountsAsked h k 0 c.loop.steps c.reducible.new.steps) (λ i. (c.loop.invariant.keeps i).codes) c.reducible.ensures.steps in
    moved (λ n k. AsksFew may table codes size h0 n k c.args.steps.now c.reducible.new.steps) {h' = h'} (λ i. (c.reducible.ensures.keeps i).commits) refl
    (asked_still may table codes size h0 c.loop.engine.commits h c.args.steps.now c.loop.steps c.reducible.new.steps c.loop.invariant.run.turn.valid c.loop.invariant.asks h' c.reducible.ensures.same few)

pub returns-else-reducible-clause-asks : goal.returns-else-reducible-clause-asks
returns-else-reducible-clause-asks g c =
    let table = c.args.plain.now.rules in
    let codes = c.args.engine.now.codes in
    let size = c.args.engine.now.size in
    let may : ℕ → ℕ → ℕ → Type 0 = λ t m r. g.F.Fn.post c.args.engine.now.chooser.f (t, (m, tt)) r in
    let h0 = g.S.LinkStore.heap c.args.engine.now.machine.store in
    let h = g.S.LinkStore.heap c.loop.engine.machine.store in
    let h' = g.S.LinkStore.heap c.reducible.new.self.machine.store in
    let few = subst (λ k. CountsAsked h k 0 c.loop.steps c.reducible.new.steps) (λ i. (c.loop.invariant.keeps i).codes) c.reducible.ensures.steps in
    moved (λ n k. AsksFew may table codes size h0 n k c.args.steps.now c.reducible.new.steps) {h' = h'} (λ i. (c.reducible.ensures.keeps i).commits) refl
    (asked_still may table codes size h0 c.loop.engine.commits h c.args.steps.now c.loop.steps c.reducible.new.steps c.loop.invariant.run.turn.valid c.loop.invariant.asks h' c.reducible.ensures.same few)
