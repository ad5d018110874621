use Rattle.std.proofs.Common.{refl, subst}
use Rattle.lmn_store_web.specs.WebHeaps.{heap_of}
use Rattle.lmn_debug.specs.Courses.{course}
use Rattle.lmn_debug.specs.declared.session.Stop.TheVariants as stop
use Rattle.lmn_debug.specs.Obeying.{LineTold}
use Rattle.lmn_debug.proofs.Obeyings.{back_obeyed}
use Rattle.lmn_debug.proofs.debugging.back.Goals as goal

pub returns-in-Ok-clause-obeyed : goal.returns-in-Ok-clause-obeyed
returns-in-Ok-clause-obeyed g c k gives named S first stands =
    let names = c.args.names.now in
    let table = c.args.beginning.now.plain.now.rules in
    let t' = c.go_back.new.session.engine.commits in
    let h' = heap_of c.go_back.new.session.engine.machine.store in
    let old = g.O.Sink.told c.args.out.now in
    let new = g.O.Sink.told c.tell.new.out in
    back_obeyed names table (course k c.args.beginning.now.size S) c.args.session.now.engine.commits c.args.n t' h' old new c.tell.result c.in-Ok.ensures.number
    (c.in-Ok.ensures.back names k gives named S first stands) (subst (λ m. LineTold m stop.Done old new c.tell.result) c.commits.ensures c.tell.ensures.told)

pub returns-in-Err-clause-obeyed : goal.returns-in-Err-clause-obeyed
returns-in-Err-clause-obeyed g c k gives named S first stands = (c.in-Err.ensures.lacks, refl)
