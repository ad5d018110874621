use Rattle.std.proofs.Common.{◌≤◌, sym, subst, arith}
use Rattle.lmn_schedule.specs.Turning.{Gives}
use Rattle.lmn_store_web.specs.WebHeaps.{heap_of}
use Rattle.lmn_debug.specs.Courses.{course}
use Rattle.lmn_debug.specs.Sessions.{StandsAt, StandsStepped}
use Rattle.lmn_debug.specs.Obeying.{LineTold}
use Rattle.lmn_debug.proofs.Obeyings.{moved, step_obeyed}
use Rattle.lmn_debug.proofs.debugging.step.Goals as goal

pub returns-clause-obeyed : goal.returns-clause-obeyed
returns-clause-obeyed g c k gives named S first stands =
    let names = c.args.names.now in
    let table = c.args.beginning.now.plain.now.rules in
    let same = c.requires.same in
    let t = c.args.session.now.engine.commits in
    let h = heap_of c.args.session.now.engine.machine.store in
    let why = c.step-stop.result in
    let t' = c.step-stop.new.self.engine.commits in
    let h' = heap_of c.step-stop.new.self.engine.machine.store in
    let old = g.O.Sink.told c.args.out.now in
    let new = g.O.Sink.told c.tell.new.out in
    let before = moved (λ f T n. Gives (λ f t m r. g.F.Fn.post f (t, (m, tt)) r) f k × StandsAt names T (course k n S) t h) (sym same.1) (sym same.0) (sym same.2) (gives, stands) in
    let s = moved (λ f T n. StandsStepped names T (course k n S) t c.args.n why t' h') same.1 same.0 same.2 (c.step-stop.ensures.stepped k before.0 names S before.1) in
    step_obeyed names table (course k c.args.beginning.now.size S) t c.args.n why t' h' old new c.tell.result s
    (subst (λ m. LineTold m why old new c.tell.result) c.commits.ensures c.tell.ensures.told)

pub step-stop-requires-clause-few : goal.step-stop-requires-clause-few
step-stop-requires-clause-few g c =
    let few : c.args.n ≤ 1000000 = c.requires.order in
    (c.requires.commits, omega (arith, few))
