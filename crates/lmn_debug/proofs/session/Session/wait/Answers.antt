use Rattle.std.proofs.Common.{◌≡◌, ◌+◌, Some, sym, ap, subst, ◌∙◌, arith}
use Rattle.lmn_order.specs.Answers.{AnswersBelow}
use Rattle.lmn_schedule.specs.Turning.{Gives}
use Rattle.lmn_debug.specs.Courses.{course, wish}
use Rattle.lmn_debug.specs.Sessions.{StandsAt}
use Rattle.lmn_debug.specs.Turning.{TurnsTo, WaitsOn, counted}
use Rattle.lmn_debug.specs.declared.session.Stop.TheVariants as stop
use Rattle.lmn_debug.proofs.Turns.{moved_to, waits_met, waits_one}
use Rattle.lmn_debug.proofs.session.Session.wait.Goals as goal
use Rattle.lmn_store_heap.proofs.Common.{moved}

pub returns-then-is_met-clause-waits : goal.returns-then-is_met-clause-waits
returns-then-is_met-clause-waits g c k gives names known first t v l m =
    let old = c.args.self.now.engine in
    let table = old.plain.now.rules in
    let over = course k old.size first in
    let w = wish c.args.functor c.args.stop.now.op c.args.stop.now.n in
    moved (λ n h. WaitsOn names table over w t (Some stop.Met) n h) (λ i. (c.is_met.ensures.keeps i).commits) c.is_met.ensures.kept
    (waits_met names table over w t old.commits (g.S.LinkStore.heap old.machine.store) v l (omega (arith, m)) (c.is_met.ensures.met c.if-is_met.true names v.stands.solid v.stands.holds known))

pub turn-requires-clause-chooser : goal.turn-requires-clause-chooser
turn-requires-clause-chooser g c = subst (AnswersBelow (λ f t m. g.F.Fn.pre f (t, (m, tt))) (λ f t m r. g.F.Fn.post f (t, (m, tt)) r)) (sym (λ i. (c.is_met.ensures.keeps i).chooser.f)) c.requires.chooser

pub turn-requires-clause-commits : goal.turn-requires-clause-commits
turn-requires-clause-commits g c =
    let e : c.is_met.new.self.engine.commits ≡ c.args.self.now.engine.commits = λ i. (c.is_met.ensures.keeps i).commits in
    let l = c.requires.commits in
    omega (arith, e, l)

pub returns-else-is_met-clause-waits : goal.returns-else-is_met-clause-waits
returns-else-is_met-clause-waits g c k gives names known first t v l m =
    let old = c.args.self.now.engine in
    let asked = c.is_met.new.self.engine in
    let keeps = c.is_met.ensures.keeps in
    let h = g.S.LinkStore.heap old.machine.store in
    let n' = c.turn.new.self.engine.commits in
    let h' = g.S.LinkStore.heap c.turn.new.self.engine.machine.store in
    let table = old.plain.now.rules in
    let over = course k old.size first in
    let w = wish c.args.functor c.args.stop.now.op c.args.stop.now.n in
    let unmet = c.is_met.ensures.unmet c.if-is_met.false names v.stands.solid v.stands.holds known in
    let gives' = subst (λ f. Gives (λ f t m r. g.F.Fn.post f (t, (m, tt)) r) f k) (sym (λ i. (keeps i).chooser.f)) gives in
    let at_asked = moved_to (λ T z. (s : StandsAt names T (course k z first) asked.commits (g.S.LinkStore.heap asked.machine.store)) → TurnsTo names T (course k z first) s.solid s.is.before c.turn.result n' h') (λ i. (keeps i).plain.now.rules) (λ i. (keeps i).size) (c.turn.ensures.turned k gives' names first) in
    let at_count = subst (λ n. (s : StandsAt names table over n (g.S.LinkStore.heap asked.machine.store)) → TurnsTo names table over s.solid s.is.before c.turn.result n' h') (λ i. (keeps i).commits) at_asked in
    let at_old = subst (λ i. (s : StandsAt names table over old.commits i) → TurnsTo names table over s.solid s.is.before c.turn.result n' h') c.is_met.ensures.kept at_count in
    let more : n' ≡ old.commits + counted c.turn.result = c.turn.ensures.counts ∙ ap (λ n. n + counted c.turn.result) (λ i. (keeps i).commits) in
    waits_one names table over w t old.commits n' h h' v l m unmet c.turn.result (at_old v.stands) more

pub returns-else-is_met-clause-keeps : goal.returns-else-is_met-clause-keeps
returns-else-is_met-clause-keeps g c = c.turn.ensures.keeps ∙ (λ i. record (c.is_met.ensures.keeps i) { machine = c.turn.new.self.engine.machine; commits = c.turn.new.self.engine.commits })

pub returns-else-is_met-clause-counts : goal.returns-else-is_met-clause-counts
returns-else-is_met-clause-counts g c = c.turn.ensures.counts ∙ ap (λ n. n + counted c.turn.result) (λ i. (c.is_met.ensures.keeps i).commits)
