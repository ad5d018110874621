use Rattle.std.proofs.Common.{Some, None, sym, subst}
use Rattle.lmn_schedule_strategy.specs.declared.turning.Turn.TheVariants as answer
use Rattle.lmn_debug.specs.declared.session.Stop.TheVariants as stop
use Rattle.lmn_debug.specs.Courses.{course}
use Rattle.lmn_debug.specs.Turning.{TurnsTo}
use Rattle.lmn_debug.proofs.Turns.{turn_to}
use Rattle.lmn_schedule.specs.Held.{EngineCanTurn}
use Rattle.lmn_debug.proofs.session.Session.turn.Goals as goal

pub returns-in-Committed-clause-turned : goal.returns-in-Committed-clause-turned
returns-in-Committed-clause-turned g c k gives names first s =
    let engine = c.args.self.now.engine in
    let table = engine.plain.now.rules in
    let over = course k engine.size first in
    let h' = g.S.LinkStore.heap c.turn.new.self.machine.store in
    subst (λ n. TurnsTo names table over s.solid s.is.before None n h') (sym (λ i. (c.in-Committed.ensures.keeps i).commits))
    (turn_to names table over engine.commits (g.S.LinkStore.heap engine.machine.store) h' s c.requires.commits answer.Committed (c.in-Committed.ensures.turned k gives names s.solid s.holds))

pub returns-in-Irreducible-clause-turned : goal.returns-in-Irreducible-clause-turned
returns-in-Irreducible-clause-turned g c k gives names first s =
    let engine = c.args.self.now.engine in
    let table = engine.plain.now.rules in
    let over = course k engine.size first in
    let h' = g.S.LinkStore.heap c.turn.new.self.machine.store in
    subst (λ n. TurnsTo names table over s.solid s.is.before (Some stop.Irreducible) n h') (sym (λ i. (c.in-Irreducible.ensures.keeps i).commits))
    (turn_to names table over engine.commits (g.S.LinkStore.heap engine.machine.store) h' s c.requires.commits answer.Irreducible (c.in-Irreducible.ensures.turned k gives names s.solid s.holds))

pub returns-in-Full-clause-turned : goal.returns-in-Full-clause-turned
returns-in-Full-clause-turned g c k gives names first s =
    let engine = c.args.self.now.engine in
    let table = engine.plain.now.rules in
    let over = course k engine.size first in
    let h' = g.S.LinkStore.heap c.turn.new.self.machine.store in
    subst (λ n. TurnsTo names table over s.solid s.is.before (Some stop.Full) n h') (sym (λ i. (c.in-Full.ensures.keeps i).commits))
    (turn_to names table over engine.commits (g.S.LinkStore.heap engine.machine.store) h' s c.requires.commits answer.Full (c.in-Full.ensures.turned k gives names s.solid s.holds))

pub returns-in-NoMemory-clause-turned : goal.returns-in-NoMemory-clause-turned
returns-in-NoMemory-clause-turned g c k gives names first s =
    let engine = c.args.self.now.engine in
    let table = engine.plain.now.rules in
    let over = course k engine.size first in
    let h' = g.S.LinkStore.heap c.turn.new.self.machine.store in
    subst (λ n. TurnsTo names table over s.solid s.is.before (Some stop.NoMemory) n h') (sym (λ i. (c.in-NoMemory.ensures.keeps i).commits))
    (turn_to names table over engine.commits (g.S.LinkStore.heap engine.machine.store) h' s c.requires.commits answer.NoMemory (c.in-NoMemory.ensures.turned k gives names s.solid s.holds))

pub returns-in-Committed-clause-again : goal.returns-in-Committed-clause-again
returns-in-Committed-clause-again g c =
    subst (λ e. EngineCanTurn (g.S.LinkStore.heap c.turn.new.self.machine.store) e.plain.now.rules e.codes e.size) (sym c.turn.ensures.keeps) c.turn.ensures.again

pub returns-in-Irreducible-clause-again : goal.returns-in-Irreducible-clause-again
returns-in-Irreducible-clause-again g c =
    subst (λ e. EngineCanTurn (g.S.LinkStore.heap c.turn.new.self.machine.store) e.plain.now.rules e.codes e.size) (sym c.turn.ensures.keeps) c.turn.ensures.again

pub returns-in-Full-clause-again : goal.returns-in-Full-clause-again
returns-in-Full-clause-again g c =
    subst (λ e. EngineCanTurn (g.S.LinkStore.heap c.turn.new.self.machine.store) e.plain.now.rules e.codes e.size) (sym c.turn.ensures.keeps) c.turn.ensures.again

pub returns-in-NoMemory-clause-again : goal.returns-in-NoMemory-clause-again
returns-in-NoMemory-clause-again g c =
    subst (λ e. EngineCanTurn (g.S.LinkStore.heap c.turn.new.self.machine.store) e.plain.now.rules e.codes e.size) (sym c.turn.ensures.keeps) c.turn.ensures.again
