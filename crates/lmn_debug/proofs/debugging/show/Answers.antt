use Rattle.std.proofs.Common.{subst, sym}
use Rattle.lmn_schedule.specs.Held.{EngineCanTurn}
use Rattle.lmn_store_web.specs.WebHeaps.{heap_of}
use Rattle.lmn_debug.specs.Courses.{course}
use Rattle.lmn_debug.proofs.Obeyings.{show_failed, show_obeyed}
use Rattle.lmn_debug.proofs.debugging.show.Goals as goal

pub returns-in-Ok-clause-obeyed : goal.returns-in-Ok-clause-obeyed
returns-in-Ok-clause-obeyed g c k gives named S first stands =
    show_obeyed c.args.names.now c.args.beginning.now.plain.now.rules (course k c.args.beginning.now.size S) c.args.session.now.engine.commits c.show.new.self.engine.commits
    (heap_of c.args.session.now.engine.machine.store) (heap_of c.show.new.self.engine.machine.store) (g.O.Sink.told c.args.out.now) (g.O.Sink.told c.show.new.out)
    (λ i. (c.show.ensures.keeps i).commits) stands c.show.ensures.kept (λ line is. c.in-Ok.ensures.writes.took line is)

pub returns-in-Err-clause-obeyed : goal.returns-in-Err-clause-obeyed
returns-in-Err-clause-obeyed g c k gives named S first stands =
    show_failed c.args.names.now c.args.beginning.now.plain.now.rules (course k c.args.beginning.now.size S) c.args.session.now.engine.commits c.show.new.self.engine.commits
    (heap_of c.args.session.now.engine.machine.store) (heap_of c.show.new.self.engine.machine.store) (g.O.Sink.told c.args.out.now) (g.O.Sink.told c.show.new.out)
    (λ i. (c.show.ensures.keeps i).commits) stands (λ line is. c.in-Err.ensures.writes.prefix line is)

pub returns-in-Ok-clause-again : goal.returns-in-Ok-clause-again
returns-in-Ok-clause-again g c =
    let from = c.args.beginning.now in
    let old = c.args.session.now.engine in
    let new = c.show.new.self.engine in
    subst (λ h. EngineCanTurn h from.plain.now.rules new.codes from.size) (sym c.show.ensures.kept)
    (subst (λ codes. EngineCanTurn (heap_of old.machine.store) from.plain.now.rules codes from.size) (sym (λ i. (c.show.ensures.keeps i).codes)) c.requires.run)
