use Rattle.std.proofs.Common.{sym, subst}
use Rattle.lmn_schedule.specs.Turning.{Gives}
use Rattle.lmn_store_web.specs.WebHeaps.{heap_of}
use Rattle.lmn_debug.specs.Courses.{course, wish}
use Rattle.lmn_debug.specs.Sessions.{StandsAt, StandsWaited}
use Rattle.lmn_debug.specs.Obeying.{LineTold}
use Rattle.lmn_debug.proofs.Obeyings.{moved, until_obeyed}
use Rattle.lmn_debug.proofs.debugging.until.Goals as goal

pub returns-clause-obeyed : goal.returns-clause-obeyed
returns-clause-obeyed g c k gives named S first stands =
    let names = c.args.names.now in
    let table = c.args.beginning.now.plain.now.rules in
    let same = c.requires.same in
    let asked = c.new-stop.ensures.same in
    let t = c.args.session.now.engine.commits in
    let h = heap_of c.args.session.now.engine.machine.store in
    let why = c.until-why.result in
    let t' = c.until-why.new.self.engine.commits in
    let h' = heap_of c.until-why.new.self.engine.machine.store in
    let old = g.O.Sink.told c.args.out.now in
    let new = g.O.Sink.told c.tell.new.out in
    let before = moved (λ f T n. Gives (λ f t m r. g.F.Fn.post f (t, (m, tt)) r) f k × StandsAt names T (course k n S) t h) (sym same.1) (sym same.0) (sym same.2) (gives, stands) in
    let s = moved (λ f T n. StandsWaited names T (course k n S) (wish c.args.functor c.new-stop.result.op c.new-stop.result.n) t why t' h') same.1 same.0 same.2
    (c.until-why.ensures.waited k before.0 names S c.requires.order before.1) in
    let g' = course k c.args.beginning.now.size S in
    let w = subst (λ op. StandsWaited names table g' (wish c.args.functor op c.args.n) t why t' h') asked.1 (subst (λ n. StandsWaited names table g' (wish c.args.functor c.new-stop.result.op n) t why t' h') asked.2 s) in
    until_obeyed names table g' t c.args.functor c.args.op c.args.n why t' h' old new c.tell.result w
    (subst (λ m. LineTold m why old new c.tell.result) c.commits.ensures c.tell.ensures.told)
