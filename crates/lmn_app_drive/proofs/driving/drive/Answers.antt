use Rattle.std.proofs.Common.{ℕ, ◌≡◌, ◌∙◌, refl, sym, subst}
use Rattle.lmn_io.proofs.TakingLemmas.{none_more, none_then_last}
use Rattle.lmn_schedule.specs.Held.{EngineCanTurn}
use Rattle.lmn_store_heap.proofs.Common.{moved}
use Rattle.lmn_app_drive.specs.Asking.{AsksFew}
use Rattle.lmn_app_drive.specs.Answers.{DroveByAnswers, StoppedByAnswers}
use Rattle.lmn_app_drive.specs.Driving.{Drove, Stopped, given_by_engine}
use Rattle.lmn_app_drive.proofs.Answered.{broken_by, concluded_by}
use Rattle.lmn_app_drive.proofs.Goings.{drove_broke}
use Rattle.lmn_app_drive.proofs.driving.drive.Goals as goal

pub returns-in-Ok-clause-faults : goal.returns-in-Ok-clause-faults
returns-in-Ok-clause-faults g c =
    let old = g.O.Sink.faults c.args.out.now in
    let mid = g.O.Sink.faults c.run.new.out in
    let new = g.O.Sink.faults c.conclude.new.out in
    ((λ n. none_more old mid new c.in-Ok.ensures.same (c.conclude.ensures.same n)), (λ e. none_then_last old mid new c.in-Ok.ensures.same (c.conclude.ensures.rose e)))

pub returns-in-Err-clause-drove : goal.returns-in-Err-clause-drove
returns-in-Err-clause-drove g c k gives solid held =
    drove_broke (given_by_engine c.args.names.now c.args.plain.now.rules c.args.engine.now.size c.args.options.now k solid) c.run.new.engine.commits
    (g.S.LinkStore.heap c.run.new.engine.machine.store) (g.O.Sink.told c.args.out.now) (g.O.Sink.told c.run.new.out) (c.in-Err.ensures.stops k gives solid held)

pub returns-in-Ok-clause-drove : goal.returns-in-Ok-clause-drove
returns-in-Ok-clause-drove g c k gives solid held =
    let names = c.args.names.now in
    let table = c.args.plain.now.rules in
    let options = c.args.options.now in
    let told = g.O.Sink.told c.args.out.now in
    let mid = g.O.Sink.told c.run.new.out in
    let new = g.O.Sink.told c.conclude.new.out in
    let h = g.S.LinkStore.heap c.run.new.engine.machine.store in
    let h' = g.S.LinkStore.heap c.conclude.new.engine.machine.store in
    let size : c.run.new.engine.size ≡ c.args.engine.now.size = λ i. (c.run.ensures.keeps i).size in
    let commits : c.conclude.new.engine.commits ≡ c.run.new.engine.commits = λ i. (c.conclude.ensures.keeps i).commits in
    let stopped = subst (λ n. Stopped (given_by_engine names table n options k solid) c.run.new.engine.commits h c.in-Ok.stop told mid) (sym size) (c.in-Ok.ensures.stops k gives solid held) in
    subst (λ n. Drove (given_by_engine names table n options k solid) c.conclude.new.engine.commits h' c.conclude.result told new) size
    (subst (λ m. Drove (given_by_engine names table c.run.new.engine.size options k solid) m h' c.conclude.result told new) (sym commits) (c.conclude.ensures.drove k solid told stopped).drove)

pub returns-in-Ok-clause-answered : goal.returns-in-Ok-clause-answered
returns-in-Ok-clause-answered g c solid held =
    let names = c.args.names.now in
    let table = c.args.plain.now.rules in
    let options = c.args.options.now in
    let told = g.O.Sink.told c.args.out.now in
    let mid = g.O.Sink.told c.run.new.out in
    let new = g.O.Sink.told c.conclude.new.out in
    let h = g.S.LinkStore.heap c.run.new.engine.machine.store in
    let h' = g.S.LinkStore.heap c.conclude.new.engine.machine.store in
    let size : c.run.new.engine.size ≡ c.args.engine.now.size = λ i. (c.run.ensures.keeps i).size in
    let commits : c.conclude.new.engine.commits ≡ c.run.new.engine.commits = λ i. (c.conclude.ensures.keeps i).commits in
    let may : ℕ → ℕ → ℕ → Type 0 = λ t m r. g.F.Fn.post c.args.engine.now.chooser.f (t, (m, tt)) r in
    let stopped = subst (λ n. StoppedByAnswers may (λ k. given_by_engine names table n options k solid) c.run.new.engine.commits h c.in-Ok.stop told mid c.args.steps.now c.run.new.steps) (sym size) (c.in-Ok.ensures.answered solid held) in
    subst (λ n. DroveByAnswers may (λ k. given_by_engine names table n options k solid) c.conclude.new.engine.commits h' c.conclude.result told new c.args.steps.now c.run.new.steps) size
    (subst (λ m. DroveByAnswers may (λ k. given_by_engine names table c.run.new.engine.size options k solid) m h' c.conclude.result told new c.args.steps.now c.run.new.steps) (sym commits)
    (concluded_by may names table c.run.new.engine.size options solid c.run.new.engine.commits h h' c.in-Ok.stop c.conclude.result told mid new c.args.steps.now c.run.new.steps (λ k x. c.conclude.ensures.drove k solid told x) stopped))

pub returns-in-Err-clause-answered : goal.returns-in-Err-clause-answered
returns-in-Err-clause-answered g c solid held =
    broken_by (λ t m r. g.F.Fn.post c.args.engine.now.chooser.f (t, (m, tt)) r) c.args.names.now c.args.plain.now.rules c.args.engine.now.size c.args.options.now solid c.run.new.engine.commits
    (g.S.LinkStore.heap c.run.new.engine.machine.store) (g.O.Sink.told c.args.out.now) (g.O.Sink.told c.run.new.out) c.args.steps.now c.run.new.steps (c.in-Err.ensures.answered solid held)

pub returns-in-Ok-clause-asks : goal.returns-in-Ok-clause-asks
returns-in-Ok-clause-asks g c =
    moved (λ n h. AsksFew (λ t m r. g.F.Fn.post c.args.engine.now.chooser.f (t, (m, tt)) r) c.args.plain.now.rules c.args.engine.now.codes c.args.engine.now.size (g.S.LinkStore.heap c.args.engine.now.machine.store) n h c.args.steps.now c.run.new.steps)
    (λ i. (c.conclude.ensures.keeps i).commits) c.conclude.ensures.kept c.run.ensures.asks

pub run-requires-clause-run : goal.run-requires-clause-run
run-requires-clause-run g c = c.requires.run.0

pub run-requires-clause-plain : goal.run-requires-clause-plain
run-requires-clause-plain g c = c.requires.run.1

pub run-requires-clause-commits : goal.run-requires-clause-commits
run-requires-clause-commits g c = c.requires.run.2

pub returns-in-Ok-clause-engine : goal.returns-in-Ok-clause-engine
returns-in-Ok-clause-engine g c =
    let was = c.args.engine.now in
    let mid = c.run.new.engine in
    let now = c.conclude.new.engine in
    let done = c.conclude.ensures.keeps in (
      subst (λ h. EngineCanTurn h c.args.plain.now.rules was.codes was.size) (sym c.conclude.ensures.kept) c.run.ensures.again,
      done ∙ sym (λ i. record mid { machine = now.machine; commits = (done i).commits }) ∙ (λ i. record (c.run.ensures.keeps i) { machine = now.machine; commits = now.commits }),
    )

pub returns-in-Err-clause-engine : goal.returns-in-Err-clause-engine
returns-in-Err-clause-engine g c = (c.run.ensures.again, c.run.ensures.keeps)

pub returns-in-Err-clause-faults : goal.returns-in-Err-clause-faults
returns-in-Err-clause-faults g c = ((λ n. absurd (n refl)), (λ e. c.in-Err.ensures.rose))
