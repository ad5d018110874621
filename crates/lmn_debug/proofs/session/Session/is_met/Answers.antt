use Rattle.std.proofs.Common.{subst, sym}
use Rattle.lmn_schedule.specs.Held.{EngineCanTurn}
use Rattle.lmn_debug.specs.Courses.{wish}
use Rattle.lmn_debug.proofs.Turns.{not_both, unmet_in}
use Rattle.lmn_debug.proofs.session.Session.is_met.Goals as goal

pub returns-clause-met : goal.returns-clause-met
returns-clause-met g c yes_ names solid held known = (c.count.result, c.count.ensures.counts names solid held known, c.met.ensures.0 yes_)

pub returns-clause-unmet : goal.returns-clause-unmet
returns-clause-unmet g c not_ names solid held known =
    let it = c.args.stop.now in
    unmet_in names solid (wish c.args.functor it.op it.n) c.count.result (c.count.ensures.counts names solid held known) (λ s. not_both c.met.result not_ (c.met.ensures.1 s))

pub returns-clause-again : goal.returns-clause-again
returns-clause-again g c =
    let was = c.args.self.now.engine in
    let h' = g.S.LinkStore.heap c.count.new.self.engine.machine.store in
    subst (λ e. EngineCanTurn h' e.plain.now.rules e.codes e.size) (sym c.count.ensures.keeps)
    (subst (λ h. EngineCanTurn h was.plain.now.rules was.codes was.size) (sym c.count.ensures.kept) c.requires.run)
