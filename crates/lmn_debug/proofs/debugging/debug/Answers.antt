use Rattle.std.proofs.Common.{◌≡◌, ◌∙◌, sym, subst}
use Rattle.lmn_schedule.specs.Held.{EngineCanTurn}
use Rattle.lmn_store_web.specs.WebHeaps.{heap_of}
use Rattle.lmn_debug.specs.Courses.{course}
use Rattle.lmn_debug.specs.Sessions.{StandsAt}
use Rattle.lmn_debug.proofs.Obeyings.{all_debugged}
use Rattle.lmn_debug.proofs.debugging.debug.Goals as goal
use Rattle.lmn_debug.proofs.Turns.{stands_first}

pub returns-clause-debugged : goal.returns-clause-debugged
returns-clause-debugged g c k gives named held =
    let names = c.args.names.now in
    let table = c.args.plain.now.rules in
    let g' = course k c.args.size held.solid in
    let old = g.O.Sink.told c.args.out.now in
    let new = g.O.Sink.told c.carry_out.new.out in
    let same : heap_of c.start-session.result.engine.machine.store ≡ heap_of c.args.engine.machine.store = λ i. heap_of (c.start-session.ensures i).machine.store in
    let stands = subst (StandsAt names table g' 0) (sym same) (stands_first names table g' (heap_of c.args.engine.machine.store) held.holds) in
    all_debugged names table g' c.args.orders.now c.carry_out.new.session.engine.commits (heap_of c.carry_out.new.session.engine.machine.store) old new c.carry_out.result
    (c.carry_out.ensures.obeyed k gives named held.solid held.from stands)

pub start-session-requires-clause-run : goal.start-session-requires-clause-run
start-session-requires-clause-run g c =
    let engine = c.args.engine in
    let same = c.requires.same in
    let h = heap_of engine.machine.store in
    subst (λ size. EngineCanTurn h engine.plain.now.rules engine.codes size) (sym same.2)
    (subst (λ rules. EngineCanTurn h rules engine.codes c.args.size) (sym (λ i. (same.0 i).rules)) c.requires.run.0)

pub start-session-requires-clause-commits : goal.start-session-requires-clause-commits
start-session-requires-clause-commits g c = c.requires.run.1

pub carry_out-requires-clause-run : goal.carry_out-requires-clause-run
carry_out-requires-clause-run g c = subst (λ e. EngineCanTurn (heap_of e.machine.store) c.args.plain.now.rules e.codes c.args.size) (sym c.start-session.ensures) c.requires.run.0

pub carry_out-requires-clause-commits : goal.carry_out-requires-clause-commits
carry_out-requires-clause-commits g c = (λ i. (c.start-session.ensures i).commits) ∙ c.requires.run.1
