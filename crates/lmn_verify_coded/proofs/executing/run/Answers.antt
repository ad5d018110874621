use Rattle.std.proofs.Common.{◌≡◌, ◌+◌, None, refl, sym, ap, subst, ◌∙◌, arith}
use Rattle.lmn_schedule_strategy.specs.Choosing.{NoneIn}
use Rattle.lmn_store_heap.specs.Sound.{Forest, IsTree, flat}
use Rattle.lmn_verify_coded.specs.Turning.{CodedCanTurn}
use Rattle.lmn_verify_coded.specs.Runs.{CodedRun, StoppedRun, begun, turned}
use Rattle.lmn_verify_coded.specs.Steps.{CountsStep, MakesStep}
use Rattle.lmn_app_runs.specs.declared.stop.Stop.TheVariants as stop
use Rattle.lmn_schedule_strategy.specs.Counting.{CountsAsked}
use Rattle.lmn_verify_coded.specs.Counting.{CountsRun, CountsTurns}
use Rattle.lmn_verify_coded.proofs.Countings.{counts_last, counts_more, counts_none}
use Rattle.lmn_verify_coded.proofs.Stopping.{stops_at_end}
use Rattle.lmn_verify_coded.proofs.executing.run.Goals as goal

pub loop-init : goal.loop-init
loop-init g c =
    let h = g.S.LinkStore.heap c.args.coded.now.machine.store in
    record {
      run = c.requires.run;
      keeps = refl;
      count = c.requires.commits;
      ran = subst (λ n. CodedRun c.args.coded.now.codes c.args.coded.now.size h n h) (sym c.requires.commits) begun;
      steps = subst (λ n. CountsTurns c.args.coded.now.codes c.args.coded.now.size h n h c.args.steps.now c.args.steps.now) (sym c.requires.commits) (counts_none c.args.coded.now.codes c.args.coded.now.size h c.args.steps.now);
    }

pub loop-preserved : goal.loop-preserved
loop-preserved g c =
    let codes = c.args.coded.now.codes in
    let size = c.args.coded.now.size in
    let first = g.S.LinkStore.heap c.args.coded.now.machine.store in
    let h = g.S.LinkStore.heap c.loop.coded.machine.store in
    let h' = g.S.LinkStore.heap c.step.new.coded.machine.store in
    let same_codes : c.loop.coded.codes ≡ codes = λ i. (c.loop.invariant.keeps i).codes in
    let same_size : c.loop.coded.size ≡ size = λ i. (c.loop.invariant.keeps i).size in
    let counts : c.step.new.coded.commits ≡ c.loop.coded.commits + 1 = subst (λ o. CountsStep o c.loop.coded.commits c.step.new.coded.commits) c.in_default.is c.step.ensures.counts in
    let step = subst (λ o. MakesStep c.loop.coded.codes c.loop.coded.size h o h') c.in_default.is c.step.ensures.goes in
    let turn = subst (λ n. MakesStep codes n h None h') same_size (subst (λ xs. MakesStep xs c.loop.coded.size h None h') same_codes step) in
    record {
      run = subst (λ n. CodedCanTurn h' codes n) same_size (subst (λ xs. CodedCanTurn h' xs c.loop.coded.size) same_codes c.step.ensures.again);
      keeps = c.step.ensures.keeps ∙ (λ i. record (c.loop.invariant.keeps i) { machine = c.step.new.coded.machine; commits = c.step.new.coded.commits });
      count = counts ∙ ap (λ n. n + 1) c.loop.invariant.count;
      ran = subst (λ n. CodedRun codes size first n h') (sym counts) (turned c.loop.invariant.ran turn c.step.ensures.again.turn.valid);
      steps = subst (λ n. CountsTurns codes size first n h' c.args.steps.now c.step.new.steps) (sym counts)
          (counts_more codes size first c.loop.coded.commits h h' c.args.steps.now c.loop.steps c.step.new.steps c.loop.invariant.run.sleeps c.loop.invariant.steps turn
          (subst (λ xs. CountsAsked h xs 0 c.loop.steps c.step.new.steps) same_codes c.step.ensures.steps));
    }

pub returns-else-reducible-clause-stopped : goal.returns-else-reducible-clause-stopped
returns-else-reducible-clause-stopped g c =
    let codes = c.args.coded.now.codes in
    let size = c.args.coded.now.size in
    let first = g.S.LinkStore.heap c.args.coded.now.machine.store in
    let h = g.S.LinkStore.heap c.loop.coded.machine.store in
    let h' = g.S.LinkStore.heap c.reducible.new.self.machine.store in
    let same_codes : c.loop.coded.codes ≡ codes = λ i. (c.loop.invariant.keeps i).codes in
    let commits : c.reducible.new.self.commits ≡ c.loop.coded.commits = λ i. (c.reducible.ensures.keeps i).commits in
    let done : c.loop.coded.commits ≡ c.args.budget = (let f = c.loop-test.false in let l = c.loop.auto in let n = c.loop.invariant.count in omega (arith, n)) in
    let none = subst (λ xs. (f : Forest) → IsTree h f → NoneIn h xs (flat f)) same_codes (c.reducible.ensures.no c.if-reducible.false) in
    subst (λ n. StoppedRun codes c.args.budget size first n stop.Irreducible h') (sym commits)
    (stops_at_end codes c.args.budget size first c.loop.coded.commits h c.loop.invariant.ran c.loop.invariant.run.turn.valid h' done c.reducible.ensures.same none)

pub returns-in-Some-clause-steps : goal.returns-in-Some-clause-steps
returns-in-Some-clause-steps g c =
    let codes = c.args.coded.now.codes in
    let size = c.args.coded.now.size in
    let first = g.S.LinkStore.heap c.args.coded.now.machine.store in
    let h = g.S.LinkStore.heap c.loop.coded.machine.store in
    let same_codes : c.loop.coded.codes ≡ codes = λ i. (c.loop.invariant.keeps i).codes in
    let counts : c.step.new.coded.commits ≡ c.loop.coded.commits = subst (λ o. CountsStep o c.loop.coded.commits c.step.new.coded.commits) c.in-Some.is c.step.ensures.counts in
    subst (λ n. CountsRun codes size first n c.args.steps.now c.step.new.steps) (sym counts)
    (counts_last codes size first c.loop.coded.commits h c.args.steps.now c.loop.steps c.step.new.steps c.loop.invariant.run.turn.valid c.loop.invariant.run.sleeps c.loop.invariant.steps
    (subst (λ xs. CountsAsked h xs 0 c.loop.steps c.step.new.steps) same_codes c.step.ensures.steps))

pub returns-then-reducible-clause-steps : goal.returns-then-reducible-clause-steps
returns-then-reducible-clause-steps g c =
    let codes = c.args.coded.now.codes in
    let size = c.args.coded.now.size in
    let first = g.S.LinkStore.heap c.args.coded.now.machine.store in
    let h = g.S.LinkStore.heap c.loop.coded.machine.store in
    let same_codes : c.loop.coded.codes ≡ codes = λ i. (c.loop.invariant.keeps i).codes in
    let commits : c.reducible.new.self.commits ≡ c.loop.coded.commits = λ i. (c.reducible.ensures.keeps i).commits in
    subst (λ n. CountsRun codes size first n c.args.steps.now c.reducible.new.steps) (sym commits)
    (counts_last codes size first c.loop.coded.commits h c.args.steps.now c.loop.steps c.reducible.new.steps c.loop.invariant.run.turn.valid c.loop.invariant.run.sleeps c.loop.invariant.steps
    (subst (λ xs. CountsAsked h xs 0 c.loop.steps c.reducible.new.steps) same_codes c.reducible.ensures.steps))

pub returns-else-reducible-clause-steps : goal.returns-else-reducible-clause-steps
returns-else-reducible-clause-steps g c =
    let codes = c.args.coded.now.codes in
    let size = c.args.coded.now.size in
    let first = g.S.LinkStore.heap c.args.coded.now.machine.store in
    let h = g.S.LinkStore.heap c.loop.coded.machine.store in
    let same_codes : c.loop.coded.codes ≡ codes = λ i. (c.loop.invariant.keeps i).codes in
    let commits : c.reducible.new.self.commits ≡ c.loop.coded.commits = λ i. (c.reducible.ensures.keeps i).commits in
    subst (λ n. CountsRun codes size first n c.args.steps.now c.reducible.new.steps) (sym commits)
    (counts_last codes size first c.loop.coded.commits h c.args.steps.now c.loop.steps c.reducible.new.steps c.loop.invariant.run.turn.valid c.loop.invariant.run.sleeps c.loop.invariant.steps
    (subst (λ xs. CountsAsked h xs 0 c.loop.steps c.reducible.new.steps) same_codes c.reducible.ensures.steps))
