use Rattle.std.proofs.Common.{ℕ, ◌+◌, refl, sym, subst, ◌∙◌}
use Rattle.lmn_schedule.specs.Held.{EngineCanTurn, HoldsRegion}
use Rattle.lmn_schedule_strategy.specs.declared.turning.Turn.TheVariants as answer
use Rattle.lmn_schedule.specs.Turning.{IsTurned, IsTurnedByAnswer}
use Rattle.lmn_io.proofs.TakingLemmas.{no_put}
use Rattle.lmn_adequacy.specs.Runs.{Chooser}
use Rattle.lmn_app_drive.specs.Driving.{Broke, RunInput, Going, Stopped, given_by_engine}
use Rattle.lmn_app_drive.specs.Asking.{AsksFew}
use Rattle.lmn_app_drive.specs.AskingOn.{AskedSoFar}
use Rattle.lmn_app_drive.specs.Answers.{BrokeByAnswers, GoingByAnswers, StoppedByAnswers}
use Rattle.lmn_app_runs.specs.declared.stop.Stop.TheVariants as stop
use Rattle.lmn_app_drive.proofs.Asked.{asked_all, asked_last, asked_more, asks_once}
use Rattle.lmn_app_drive.proofs.Answered.{by_answer, commits_and_breaks, commits_on, full_by, irreducible_by, no_memory_by}
use Rattle.lmn_app_drive.proofs.Goings.{broke_more, going_more, stops_full, stops_irreducible, stops_no_memory}
use Rattle.lmn_app_drive.proofs.Writings.{at_err}
use Rattle.lmn_app_drive.proofs.driving.step.Goals as goal
use Rattle.lmn_store_heap.proofs.Common.{moved}
use Rattle.lmn_base.proofs.Numbers.{none_more}

pub returns-in_err-write_traced-in-Committed-clause-goes : goal.returns-in_err-write_traced-in-Committed-clause-goes
returns-in_err-write_traced-in-Committed-clause-goes g c k gives solid told below s =
    let names = c.args.names.now in
    let size = c.args.engine.now.size in
    let commits = c.args.engine.now.commits in
    let r : RunInput = given_by_engine names c.args.plain.now.rules size c.args.options.now k solid in
    let h = g.S.LinkStore.heap c.args.engine.now.machine.store in
    let h' = g.S.LinkStore.heap c.turn.new.self.machine.store in
    let t = subst (λ T. HoldsRegion names T h s.ran.last → IsTurned names T k size commits s.ran.last answer.Committed h') (λ i. (c.requires.plain i).rules) (c.in-Committed.ensures.turned k gives names s.ran.last) s.ran.holds in
    let new = g.O.Sink.told c.write_traced.new.out in
    at_err _ c.from_residual.result _ _ c.from_residual.ensures.1
    (moved (λ n h. Broke r n h told new) (λ i. (c.write_traced.ensures.keeps i).commits) c.write_traced.ensures.kept
    (moved (λ n h. Broke r n h told new) {h' = h'} (λ i. (c.in-Committed.ensures.keeps i).commits) refl
    (broke_more r commits h h' told (g.O.Sink.told c.args.out.now) s below t new
    (λ bytes is. c.in_err-write_traced-in-Committed.ensures.writes.prefix bytes is))))

pub returns-in_err-write_traced-in-Committed-clause-again : goal.returns-in_err-write_traced-in-Committed-clause-again
returns-in_err-write_traced-in-Committed-clause-again g c =
    subst (λ h. EngineCanTurn h c.args.plain.now.rules c.args.engine.now.codes c.args.engine.now.size) (sym c.write_traced.ensures.kept)
    (subst (λ T. EngineCanTurn (g.S.LinkStore.heap c.turn.new.self.machine.store) T c.args.engine.now.codes c.args.engine.now.size) (λ i. (c.requires.plain i).rules) c.turn.ensures.again)

pub returns-in_err-write_traced-in-Committed-clause-keeps : goal.returns-in_err-write_traced-in-Committed-clause-keeps
returns-in_err-write_traced-in-Committed-clause-keeps g c =
    let engine = c.write_traced.new.engine in
    let wrote = c.write_traced.ensures.keeps in
    let turned = c.in-Committed.ensures.keeps in
    wrote ∙ (λ i. record (turned i) { machine = engine.machine }) ∙ sym (λ i. record c.args.engine.now { machine = engine.machine; commits = ((λ j. (wrote j).commits) ∙ (λ j. (turned j).commits)) i })

pub returns-in_ok-write_traced-in-Committed-clause-goes : goal.returns-in_ok-write_traced-in-Committed-clause-goes
returns-in_ok-write_traced-in-Committed-clause-goes g c k gives solid told below s =
    let names = c.args.names.now in
    let size = c.args.engine.now.size in
    let commits = c.args.engine.now.commits in
    let r : RunInput = given_by_engine names c.args.plain.now.rules size c.args.options.now k solid in
    let h = g.S.LinkStore.heap c.args.engine.now.machine.store in
    let h' = g.S.LinkStore.heap c.turn.new.self.machine.store in
    let t = subst (λ T. HoldsRegion names T h s.ran.last → IsTurned names T k size commits s.ran.last answer.Committed h') (λ i. (c.requires.plain i).rules) (c.in-Committed.ensures.turned k gives names s.ran.last) s.ran.holds in
    let new = g.O.Sink.told c.write_traced.new.out in
    moved (λ n h. Going r n h told new) (λ i. (c.write_traced.ensures.keeps i).commits) c.write_traced.ensures.kept
    (moved (λ n h. Going r n h told new) {h' = h'} (λ i. (c.in-Committed.ensures.keeps i).commits) refl
    (going_more r commits h h' told (g.O.Sink.told c.args.out.now) s below t new
    (λ bytes is. c.in_ok-write_traced-in-Committed.ensures.writes.took bytes is)))

pub returns-in_ok-write_traced-in-Committed-clause-again : goal.returns-in_ok-write_traced-in-Committed-clause-again
returns-in_ok-write_traced-in-Committed-clause-again g c =
    subst (λ h. EngineCanTurn h c.args.plain.now.rules c.args.engine.now.codes c.args.engine.now.size) (sym c.write_traced.ensures.kept)
    (subst (λ T. EngineCanTurn (g.S.LinkStore.heap c.turn.new.self.machine.store) T c.args.engine.now.codes c.args.engine.now.size) (λ i. (c.requires.plain i).rules) c.turn.ensures.again)

pub returns-in_ok-write_traced-in-Committed-clause-keeps : goal.returns-in_ok-write_traced-in-Committed-clause-keeps
returns-in_ok-write_traced-in-Committed-clause-keeps g c =
    let engine = c.write_traced.new.engine in
    let wrote = c.write_traced.ensures.keeps in
    let turned = c.in-Committed.ensures.keeps in
    wrote ∙ (λ i. record (turned i) { machine = engine.machine }) ∙ sym (λ i. record c.args.engine.now { machine = engine.machine; commits = ((λ j. (wrote j).commits) ∙ (λ j. (turned j).commits)) i })

pub returns-in_ok-write_traced-in-Committed-clause-counts : goal.returns-in_ok-write_traced-in-Committed-clause-counts
returns-in_ok-write_traced-in-Committed-clause-counts g c = (λ i. (c.write_traced.ensures.keeps i).commits) ∙ (λ i. (c.in-Committed.ensures.keeps i).commits)

pub returns-in_ok-write_traced-in-Committed-clause-same : goal.returns-in_ok-write_traced-in-Committed-clause-same
returns-in_ok-write_traced-in-Committed-clause-same g c = c.in_ok-write_traced-in-Committed.ensures.writes.same

pub returns-in_err-write_traced-in-Committed-clause-rose : goal.returns-in_err-write_traced-in-Committed-clause-rose
returns-in_err-write_traced-in-Committed-clause-rose g c = at_err _ c.from_residual.result _ _ c.from_residual.ensures.1 c.in_err-write_traced-in-Committed.ensures.writes.rose

pub returns-in-Irreducible-clause-goes : goal.returns-in-Irreducible-clause-goes
returns-in-Irreducible-clause-goes g c k gives solid told below s =
    let names = c.args.names.now in
    let size = c.args.engine.now.size in
    let commits = c.args.engine.now.commits in
    let r : RunInput = given_by_engine names c.args.plain.now.rules size c.args.options.now k solid in
    let h = g.S.LinkStore.heap c.args.engine.now.machine.store in
    let h' = g.S.LinkStore.heap c.turn.new.self.machine.store in
    let t = subst (λ T. HoldsRegion names T h s.ran.last → IsTurned names T k size commits s.ran.last answer.Irreducible h') (λ i. (c.requires.plain i).rules) (c.in-Irreducible.ensures.turned k gives names s.ran.last) s.ran.holds in
    let old = g.O.Sink.told c.args.out.now in
    moved (λ n h. Stopped r n h stop.Irreducible told old) {h' = h'} ((λ i. (c.in-Irreducible.ensures.keeps i).commits) ∙ none_more commits) refl (stops_irreducible r commits h h' told old s t)

pub returns-in-Irreducible-clause-again : goal.returns-in-Irreducible-clause-again
returns-in-Irreducible-clause-again g c = subst (λ T. EngineCanTurn (g.S.LinkStore.heap c.turn.new.self.machine.store) T c.args.engine.now.codes c.args.engine.now.size) (λ i. (c.requires.plain i).rules) c.turn.ensures.again

pub returns-in-Irreducible-clause-keeps : goal.returns-in-Irreducible-clause-keeps
returns-in-Irreducible-clause-keeps g c =
    let turned = c.in-Irreducible.ensures.keeps in
    turned ∙ sym (λ i. record c.args.engine.now { machine = c.turn.new.self.machine; commits = (turned i).commits })

pub returns-in-Irreducible-clause-counts : goal.returns-in-Irreducible-clause-counts
returns-in-Irreducible-clause-counts g c = (λ i. (c.in-Irreducible.ensures.keeps i).commits) ∙ none_more c.args.engine.now.commits

pub returns-in-Irreducible-clause-same : goal.returns-in-Irreducible-clause-same
returns-in-Irreducible-clause-same g c = no_put (g.O.Sink.faults c.args.out.now)

pub returns-in-Full-clause-goes : goal.returns-in-Full-clause-goes
returns-in-Full-clause-goes g c k gives solid told below s =
    let names = c.args.names.now in
    let size = c.args.engine.now.size in
    let commits = c.args.engine.now.commits in
    let r : RunInput = given_by_engine names c.args.plain.now.rules size c.args.options.now k solid in
    let h = g.S.LinkStore.heap c.args.engine.now.machine.store in
    let h' = g.S.LinkStore.heap c.turn.new.self.machine.store in
    let t = subst (λ T. HoldsRegion names T h s.ran.last → IsTurned names T k size commits s.ran.last answer.Full h') (λ i. (c.requires.plain i).rules) (c.in-Full.ensures.turned k gives names s.ran.last) s.ran.holds in
    let old = g.O.Sink.told c.args.out.now in
    moved (λ n h. Stopped r n h stop.Full told old) {h' = h'} ((λ i. (c.in-Full.ensures.keeps i).commits) ∙ none_more commits) refl (stops_full r commits h h' told old s below t)

pub returns-in-Full-clause-again : goal.returns-in-Full-clause-again
returns-in-Full-clause-again g c = subst (λ T. EngineCanTurn (g.S.LinkStore.heap c.turn.new.self.machine.store) T c.args.engine.now.codes c.args.engine.now.size) (λ i. (c.requires.plain i).rules) c.turn.ensures.again

pub returns-in-Full-clause-keeps : goal.returns-in-Full-clause-keeps
returns-in-Full-clause-keeps g c =
    let turned = c.in-Full.ensures.keeps in
    turned ∙ sym (λ i. record c.args.engine.now { machine = c.turn.new.self.machine; commits = (turned i).commits })

pub returns-in-Full-clause-counts : goal.returns-in-Full-clause-counts
returns-in-Full-clause-counts g c = (λ i. (c.in-Full.ensures.keeps i).commits) ∙ none_more c.args.engine.now.commits

pub returns-in-Full-clause-same : goal.returns-in-Full-clause-same
returns-in-Full-clause-same g c = no_put (g.O.Sink.faults c.args.out.now)

pub returns-in-NoMemory-clause-goes : goal.returns-in-NoMemory-clause-goes
returns-in-NoMemory-clause-goes g c k gives solid told below s =
    let names = c.args.names.now in
    let size = c.args.engine.now.size in
    let commits = c.args.engine.now.commits in
    let r : RunInput = given_by_engine names c.args.plain.now.rules size c.args.options.now k solid in
    let h = g.S.LinkStore.heap c.args.engine.now.machine.store in
    let h' = g.S.LinkStore.heap c.turn.new.self.machine.store in
    let t = subst (λ T. HoldsRegion names T h s.ran.last → IsTurned names T k size commits s.ran.last answer.NoMemory h') (λ i. (c.requires.plain i).rules) (c.in-NoMemory.ensures.turned k gives names s.ran.last) s.ran.holds in
    let old = g.O.Sink.told c.args.out.now in
    moved (λ n h. Stopped r n h stop.NoMemory told old) {h' = h'} ((λ i. (c.in-NoMemory.ensures.keeps i).commits) ∙ none_more commits) refl (stops_no_memory r commits h h' told old s below t)

pub returns-in-NoMemory-clause-again : goal.returns-in-NoMemory-clause-again
returns-in-NoMemory-clause-again g c = subst (λ T. EngineCanTurn (g.S.LinkStore.heap c.turn.new.self.machine.store) T c.args.engine.now.codes c.args.engine.now.size) (λ i. (c.requires.plain i).rules) c.turn.ensures.again

pub returns-in-NoMemory-clause-keeps : goal.returns-in-NoMemory-clause-keeps
returns-in-NoMemory-clause-keeps g c =
    let turned = c.in-NoMemory.ensures.keeps in
    turned ∙ sym (λ i. record c.args.engine.now { machine = c.turn.new.self.machine; commits = (turned i).commits })

pub returns-in-NoMemory-clause-counts : goal.returns-in-NoMemory-clause-counts
returns-in-NoMemory-clause-counts g c = (λ i. (c.in-NoMemory.ensures.keeps i).commits) ∙ none_more c.args.engine.now.commits

pub returns-in-NoMemory-clause-same : goal.returns-in-NoMemory-clause-same
returns-in-NoMemory-clause-same g c = no_put (g.O.Sink.faults c.args.out.now)

pub returns-in_err-write_traced-in-Committed-clause-answered : goal.returns-in_err-write_traced-in-Committed-clause-answered
returns-in_err-write_traced-in-Committed-clause-answered g c solid told begun below b =
    let names = c.args.names.now in
    let table = c.args.plain.now.rules in
    let options = c.args.options.now in
    let size = c.args.engine.now.size in
    let commits = c.args.engine.now.commits in
    let may : ℕ → ℕ → ℕ → Type 0 = λ t m r. g.F.Fn.post c.args.engine.now.chooser.f (t, (m, tt)) r in
    let input : Chooser → RunInput = λ k. given_by_engine names table size options k solid in
    let h = g.S.LinkStore.heap c.args.engine.now.machine.store in
    let h' = g.S.LinkStore.heap c.turn.new.self.machine.store in
    let chosen = subst (λ T. IsTurnedByAnswer may T c.args.engine.now.codes size commits h answer.Committed h' c.args.steps.now c.turn.new.steps) (λ i. (c.requires.plain i).rules) c.in-Committed.ensures.chosen in
    let t = by_answer may names table size options solid commits h h' told (g.O.Sink.told c.args.out.now) begun c.args.steps.now c.turn.new.steps b c.counts_are_alike.ensures c.args.engine.now.codes c.requires.run answer.Committed chosen in
    let old = g.O.Sink.told c.args.out.now in
    let counted = c.turn.new.steps in
    let new = g.O.Sink.told c.write_traced.new.out in
    at_err _ c.from_residual.result _ _ c.from_residual.ensures.1
    (moved (λ n h. BrokeByAnswers may input n h told new begun counted) (λ i. (c.write_traced.ensures.keeps i).commits) c.write_traced.ensures.kept
    (moved (λ n h. BrokeByAnswers may input n h told new begun counted) {h' = h'} (λ i. (c.in-Committed.ensures.keeps i).commits) refl
    (commits_and_breaks may names table size options solid commits h h' told old begun c.args.steps.now counted b below t new (λ bytes is. c.in_err-write_traced-in-Committed.ensures.writes.prefix bytes is))))

pub returns-in_ok-write_traced-in-Committed-clause-answered : goal.returns-in_ok-write_traced-in-Committed-clause-answered
returns-in_ok-write_traced-in-Committed-clause-answered g c solid told begun below b =
    let names = c.args.names.now in
    let table = c.args.plain.now.rules in
    let options = c.args.options.now in
    let size = c.args.engine.now.size in
    let commits = c.args.engine.now.commits in
    let may : ℕ → ℕ → ℕ → Type 0 = λ t m r. g.F.Fn.post c.args.engine.now.chooser.f (t, (m, tt)) r in
    let input : Chooser → RunInput = λ k. given_by_engine names table size options k solid in
    let h = g.S.LinkStore.heap c.args.engine.now.machine.store in
    let h' = g.S.LinkStore.heap c.turn.new.self.machine.store in
    let chosen = subst (λ T. IsTurnedByAnswer may T c.args.engine.now.codes size commits h answer.Committed h' c.args.steps.now c.turn.new.steps) (λ i. (c.requires.plain i).rules) c.in-Committed.ensures.chosen in
    let t = by_answer may names table size options solid commits h h' told (g.O.Sink.told c.args.out.now) begun c.args.steps.now c.turn.new.steps b c.counts_are_alike.ensures c.args.engine.now.codes c.requires.run answer.Committed chosen in
    let old = g.O.Sink.told c.args.out.now in
    let counted = c.turn.new.steps in
    let new = g.O.Sink.told c.write_traced.new.out in
    moved (λ n h. GoingByAnswers may input n h told new begun counted) (λ i. (c.write_traced.ensures.keeps i).commits) c.write_traced.ensures.kept
    (moved (λ n h. GoingByAnswers may input n h told new begun counted) {h' = h'} (λ i. (c.in-Committed.ensures.keeps i).commits) refl
    (commits_on may names table size options solid commits h h' told old begun c.args.steps.now counted b below t new (λ bytes is. c.in_ok-write_traced-in-Committed.ensures.writes.took bytes is)))

pub returns-in-Irreducible-clause-answered : goal.returns-in-Irreducible-clause-answered
returns-in-Irreducible-clause-answered g c solid told begun below b =
    let names = c.args.names.now in
    let table = c.args.plain.now.rules in
    let options = c.args.options.now in
    let size = c.args.engine.now.size in
    let commits = c.args.engine.now.commits in
    let may : ℕ → ℕ → ℕ → Type 0 = λ t m r. g.F.Fn.post c.args.engine.now.chooser.f (t, (m, tt)) r in
    let input : Chooser → RunInput = λ k. given_by_engine names table size options k solid in
    let h = g.S.LinkStore.heap c.args.engine.now.machine.store in
    let h' = g.S.LinkStore.heap c.turn.new.self.machine.store in
    let chosen = subst (λ T. IsTurnedByAnswer may T c.args.engine.now.codes size commits h answer.Irreducible h' c.args.steps.now c.turn.new.steps) (λ i. (c.requires.plain i).rules) c.in-Irreducible.ensures.chosen in
    let t = by_answer may names table size options solid commits h h' told (g.O.Sink.told c.args.out.now) begun c.args.steps.now c.turn.new.steps b c.counts_are_alike.ensures c.args.engine.now.codes c.requires.run answer.Irreducible chosen in
    let old = g.O.Sink.told c.args.out.now in
    let counted = c.turn.new.steps in
    moved (λ n h. StoppedByAnswers may input n h stop.Irreducible told old begun counted) {h' = h'} ((λ i. (c.in-Irreducible.ensures.keeps i).commits) ∙ none_more commits) refl
    (irreducible_by may names table size options solid commits h h' told old begun c.args.steps.now counted b t)

pub returns-in-Full-clause-answered : goal.returns-in-Full-clause-answered
returns-in-Full-clause-answered g c solid told begun below b =
    let names = c.args.names.now in
    let table = c.args.plain.now.rules in
    let options = c.args.options.now in
    let size = c.args.engine.now.size in
    let commits = c.args.engine.now.commits in
    let may : ℕ → ℕ → ℕ → Type 0 = λ t m r. g.F.Fn.post c.args.engine.now.chooser.f (t, (m, tt)) r in
    let input : Chooser → RunInput = λ k. given_by_engine names table size options k solid in
    let h = g.S.LinkStore.heap c.args.engine.now.machine.store in
    let h' = g.S.LinkStore.heap c.turn.new.self.machine.store in
    let chosen = subst (λ T. IsTurnedByAnswer may T c.args.engine.now.codes size commits h answer.Full h' c.args.steps.now c.turn.new.steps) (λ i. (c.requires.plain i).rules) c.in-Full.ensures.chosen in
    let t = by_answer may names table size options solid commits h h' told (g.O.Sink.told c.args.out.now) begun c.args.steps.now c.turn.new.steps b c.counts_are_alike.ensures c.args.engine.now.codes c.requires.run answer.Full chosen in
    let old = g.O.Sink.told c.args.out.now in
    let counted = c.turn.new.steps in
    moved (λ n h. StoppedByAnswers may input n h stop.Full told old begun counted) {h' = h'} ((λ i. (c.in-Full.ensures.keeps i).commits) ∙ none_more commits) refl
    (full_by may names table size options solid commits h h' told old begun c.args.steps.now counted b below t)

pub returns-in-NoMemory-clause-answered : goal.returns-in-NoMemory-clause-answered
returns-in-NoMemory-clause-answered g c solid told begun below b =
    let names = c.args.names.now in
    let table = c.args.plain.now.rules in
    let options = c.args.options.now in
    let size = c.args.engine.now.size in
    let commits = c.args.engine.now.commits in
    let may : ℕ → ℕ → ℕ → Type 0 = λ t m r. g.F.Fn.post c.args.engine.now.chooser.f (t, (m, tt)) r in
    let input : Chooser → RunInput = λ k. given_by_engine names table size options k solid in
    let h = g.S.LinkStore.heap c.args.engine.now.machine.store in
    let h' = g.S.LinkStore.heap c.turn.new.self.machine.store in
    let chosen = subst (λ T. IsTurnedByAnswer may T c.args.engine.now.codes size commits h answer.NoMemory h' c.args.steps.now c.turn.new.steps) (λ i. (c.requires.plain i).rules) c.in-NoMemory.ensures.chosen in
    let t = by_answer may names table size options solid commits h h' told (g.O.Sink.told c.args.out.now) begun c.args.steps.now c.turn.new.steps b c.counts_are_alike.ensures c.args.engine.now.codes c.requires.run answer.NoMemory chosen in
    let old = g.O.Sink.told c.args.out.now in
    let counted = c.turn.new.steps in
    moved (λ n h. StoppedByAnswers may input n h stop.NoMemory told old begun counted) {h' = h'} ((λ i. (c.in-NoMemory.ensures.keeps i).commits) ∙ none_more commits) refl
    (no_memory_by may names table size options solid commits h h' told old begun c.args.steps.now counted b below t)

pub returns-in_err-write_traced-in-Committed-clause-asks : goal.returns-in_err-write_traced-in-Committed-clause-asks
returns-in_err-write_traced-in-Committed-clause-asks g c h0 begun a =
    let table = c.args.plain.now.rules in
    let codes = c.args.engine.now.codes in
    let size = c.args.engine.now.size in
    let commits = c.args.engine.now.commits in
    let may : ℕ → ℕ → ℕ → Type 0 = λ t m r. g.F.Fn.post c.args.engine.now.chooser.f (t, (m, tt)) r in
    let h = g.S.LinkStore.heap c.args.engine.now.machine.store in
    let h' = g.S.LinkStore.heap c.turn.new.self.machine.store in
    let was = c.args.steps.now in
    let counted = c.turn.new.steps in
    let chosen = subst (λ T. IsTurnedByAnswer may T codes size commits h answer.Committed h' was counted) (λ i. (c.requires.plain i).rules) c.in-Committed.ensures.chosen in
    let once = asks_once may table codes size commits h answer.Committed h' was counted chosen in
    let more = asked_more may table codes size h0 commits h begun was counted c.requires.run.turn.valid a h' once in
    at_err _ c.from_residual.result _ _ c.from_residual.ensures.1
    (moved (λ n h. AsksFew may table codes size h0 n h begun counted) (λ i. (c.write_traced.ensures.keeps i).commits) c.write_traced.ensures.kept
    (moved (λ n h. AsksFew may table codes size h0 n h begun counted) {h' = h'} (λ i. (c.in-Committed.ensures.keeps i).commits) refl
    (asked_all may table codes size h0 (commits + 1) h' begun counted c.turn.ensures.again.turn.valid more)))

pub returns-in_ok-write_traced-in-Committed-clause-asks : goal.returns-in_ok-write_traced-in-Committed-clause-asks
returns-in_ok-write_traced-in-Committed-clause-asks g c h0 begun a =
    let table = c.args.plain.now.rules in
    let codes = c.args.engine.now.codes in
    let size = c.args.engine.now.size in
    let commits = c.args.engine.now.commits in
    let may : ℕ → ℕ → ℕ → Type 0 = λ t m r. g.F.Fn.post c.args.engine.now.chooser.f (t, (m, tt)) r in
    let h = g.S.LinkStore.heap c.args.engine.now.machine.store in
    let h' = g.S.LinkStore.heap c.turn.new.self.machine.store in
    let was = c.args.steps.now in
    let counted = c.turn.new.steps in
    let chosen = subst (λ T. IsTurnedByAnswer may T codes size commits h answer.Committed h' was counted) (λ i. (c.requires.plain i).rules) c.in-Committed.ensures.chosen in
    let once = asks_once may table codes size commits h answer.Committed h' was counted chosen in
    moved (λ n h. AskedSoFar may table codes size h0 n h begun counted) (λ i. (c.write_traced.ensures.keeps i).commits) c.write_traced.ensures.kept
    (moved (λ n h. AskedSoFar may table codes size h0 n h begun counted) {h' = h'} (λ i. (c.in-Committed.ensures.keeps i).commits) refl
    (asked_more may table codes size h0 commits h begun was counted c.requires.run.turn.valid a h' once))

pub returns-in-Irreducible-clause-asks : goal.returns-in-Irreducible-clause-asks
returns-in-Irreducible-clause-asks g c h0 begun a =
    let table = c.args.plain.now.rules in
    let codes = c.args.engine.now.codes in
    let size = c.args.engine.now.size in
    let commits = c.args.engine.now.commits in
    let may : ℕ → ℕ → ℕ → Type 0 = λ t m r. g.F.Fn.post c.args.engine.now.chooser.f (t, (m, tt)) r in
    let h = g.S.LinkStore.heap c.args.engine.now.machine.store in
    let h' = g.S.LinkStore.heap c.turn.new.self.machine.store in
    let was = c.args.steps.now in
    let counted = c.turn.new.steps in
    let chosen = subst (λ T. IsTurnedByAnswer may T codes size commits h answer.Irreducible h' was counted) (λ i. (c.requires.plain i).rules) c.in-Irreducible.ensures.chosen in
    let once = asks_once may table codes size commits h answer.Irreducible h' was counted chosen in
    moved (λ n h. AsksFew may table codes size h0 n h begun counted) {h' = h'} ((λ i. (c.in-Irreducible.ensures.keeps i).commits) ∙ none_more commits) refl
    (asked_last may table codes size h0 commits h begun was counted c.requires.run.turn.valid a answer.Irreducible h' refl once)

pub returns-in-Full-clause-asks : goal.returns-in-Full-clause-asks
returns-in-Full-clause-asks g c h0 begun a =
    let table = c.args.plain.now.rules in
    let codes = c.args.engine.now.codes in
    let size = c.args.engine.now.size in
    let commits = c.args.engine.now.commits in
    let may : ℕ → ℕ → ℕ → Type 0 = λ t m r. g.F.Fn.post c.args.engine.now.chooser.f (t, (m, tt)) r in
    let h = g.S.LinkStore.heap c.args.engine.now.machine.store in
    let h' = g.S.LinkStore.heap c.turn.new.self.machine.store in
    let was = c.args.steps.now in
    let counted = c.turn.new.steps in
    let chosen = subst (λ T. IsTurnedByAnswer may T codes size commits h answer.Full h' was counted) (λ i. (c.requires.plain i).rules) c.in-Full.ensures.chosen in
    let once = asks_once may table codes size commits h answer.Full h' was counted chosen in
    moved (λ n h. AsksFew may table codes size h0 n h begun counted) {h' = h'} ((λ i. (c.in-Full.ensures.keeps i).commits) ∙ none_more commits) refl
    (asked_last may table codes size h0 commits h begun was counted c.requires.run.turn.valid a answer.Full h' refl once)

pub returns-in-NoMemory-clause-asks : goal.returns-in-NoMemory-clause-asks
returns-in-NoMemory-clause-asks g c h0 begun a =
    let table = c.args.plain.now.rules in
    let codes = c.args.engine.now.codes in
    let size = c.args.engine.now.size in
    let commits = c.args.engine.now.commits in
    let may : ℕ → ℕ → ℕ → Type 0 = λ t m r. g.F.Fn.post c.args.engine.now.chooser.f (t, (m, tt)) r in
    let h = g.S.LinkStore.heap c.args.engine.now.machine.store in
    let h' = g.S.LinkStore.heap c.turn.new.self.machine.store in
    let was = c.args.steps.now in
    let counted = c.turn.new.steps in
    let chosen = subst (λ T. IsTurnedByAnswer may T codes size commits h answer.NoMemory h' was counted) (λ i. (c.requires.plain i).rules) c.in-NoMemory.ensures.chosen in
    let once = asks_once may table codes size commits h answer.NoMemory h' was counted chosen in
    moved (λ n h. AsksFew may table codes size h0 n h begun counted) {h' = h'} ((λ i. (c.in-NoMemory.ensures.keeps i).commits) ∙ none_more commits) refl
    (asked_last may table codes size h0 commits h begun was counted c.requires.run.turn.valid a answer.NoMemory h' refl once)
