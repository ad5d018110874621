use Rattle.std.proofs.Common.{ℕ, ◌≡◌, ◌≤◌, ◌-◌, ap, sym, subst, ◌∙◌, arith}
use Rattle.lmn_schedule.specs.Turning.{Gives}
use Rattle.lmn_debug.specs.Courses.{Stepped, course}
use Rattle.lmn_debug.specs.Sessions.{StandsAt}
use Rattle.lmn_debug.specs.declared.session.Stop.TheVariants as stop
use Rattle.lmn_debug.proofs.Traces.{memory_lacked}
use Rattle.lmn_debug.proofs.Turns.{stands_first, stands_stepped}
use Rattle.lmn_debug.proofs.session.Session.back.Goals as goal

pub returns-in-Done-clause-back : goal.returns-in-Done-clause-back
returns-in-Done-clause-back g c k gives names first held =
    let fresh = c.args.fresh in
    let h = g.S.LinkStore.heap fresh.machine.store in
    let table = fresh.plain.now.rules in
    let over = course k fresh.size first in
    let e = c.start-replay.ensures in
    let n' = c.step.new.self.engine.commits in
    let h' = g.S.LinkStore.heap c.step.new.self.engine.machine.store in
    let at_fresh : StandsAt names table over fresh.commits h = subst (λ n. StandsAt names table over n h) (sym c.requires.commits.0) (stands_first names table over h held) in
    let gives' = subst (λ w. Gives (λ f t m r. g.F.Fn.post f (t, (m, tt)) r) w.chooser.f k) (sym e) gives in
    let at = subst (λ w. StandsAt names w.plain.now.rules (course k w.size first) w.commits (g.S.LinkStore.heap w.machine.store)) (sym e) at_fresh in
    subst (λ w. StandsAt names w.plain.now.rules (course k w.size first) n' h') e (stands_stepped names _ _ (c.step.ensures.stepped k gives' names first at))

pub returns-in_default-clause-lacks : goal.returns-in_default-clause-lacks
returns-in_default-clause-lacks g c k gives names first held s =
    let fresh = c.args.fresh in
    let h = g.S.LinkStore.heap fresh.machine.store in
    let table = fresh.plain.now.rules in
    let over = course k fresh.size first in
    let e = c.start-replay.ensures in
    let number = c.saturating_sub-number.result in
    let commits = c.args.self.now.engine.commits in
    let n' = c.step.new.self.engine.commits in
    let at_fresh : StandsAt names table over fresh.commits h = subst (λ n. StandsAt names table over n h) (sym c.requires.commits.0) (stands_first names table over h held) in
    let gives' = subst (λ w. Gives (λ f t m r. g.F.Fn.post f (t, (m, tt)) r) w.chooser.f k) (sym e) gives in
    let at = subst (λ w. StandsAt names w.plain.now.rules (course k w.size first) w.commits (g.S.LinkStore.heap w.machine.store)) (sym e) at_fresh in
    let replayed : Stepped over fresh.commits number c.step.result n' =
    subst (λ w. Stepped (course k w.size first) w.commits number c.step.result n') e (c.step.ensures.stepped k gives' names first at).stepped in
    let from_first : Stepped over 0 number c.step.result n' = subst (λ t. Stepped over t number c.step.result n') c.requires.commits.0 replayed in
    let is : number ≡ commits - c.args.n = c.saturating_sub-number.ensures ∙ ap (λ t. t - c.args.n) c.commits.ensures in
    let up : number ≤ commits = omega (arith, is) in
    subst (λ j. (t' : ℕ) × Stepped over 0 j stop.NoMemory t') is (memory_lacked over commits number n' s.solid s.is up c.step.result c.in_default.not-Done from_first)

pub step-requires-clause-few : goal.step-requires-clause-few
step-requires-clause-few g c =
    let zero : c.start-replay.result.engine.commits ≡ 0 = (λ i. (c.start-replay.ensures i).commits) ∙ c.requires.commits.0 in
    let is = c.saturating_sub-number.ensures in
    let here = c.commits.ensures in
    let few = c.requires.commits.1 in
    (omega (arith, zero), omega (arith, is, here, few))

pub returns-in-Done-clause-engine : goal.returns-in-Done-clause-engine
returns-in-Done-clause-engine g c =
    let now = c.step.new.self.engine in
    let zero : c.start-replay.result.engine.commits ≡ 0 = (λ i. (c.start-replay.ensures i).commits) ∙ c.requires.commits.0 in
    let is = c.saturating_sub-number.ensures in
    let here = c.commits.ensures in
    let all = c.step.ensures.all c.in-Done.is in
    (omega (arith, zero, is, here, all), c.step.ensures.again, c.step.ensures.keeps ∙ (λ i. record (c.start-replay.ensures i) { machine = now.machine; commits = now.commits }))
