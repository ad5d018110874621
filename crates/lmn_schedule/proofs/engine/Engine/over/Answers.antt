use Rattle.std.proofs.Common.{subst, sym}
use Rattle.lmn_schedule_loading.specs.Loaded.{IsLoaded}
use Rattle.lmn_schedule_strategy.specs.Quieting.{AllAwake}
use Rattle.lmn_schedule.proofs.Loaded.{can_run}
use Rattle.lmn_schedule.proofs.engine.Engine.over.Goals as goal

pub returns-clause-run : goal.returns-clause-run
returns-clause-run g c =
    let loaded = subst (λ s. IsLoaded c.args.plain.now (g.S.LinkStore.heap s)) (sym c.in_ok-new.ensures) c.requires.store in
    can_run c.loading_settles.ensures.rules c.args.plain.now c.args.plans.now c.in_ok-stored.field-0 (g.S.LinkStore.heap c.in_ok-new.field-0.store) c.args.size c.requires.plain.made c.requires.plain.plans_are loaded c.in_ok-stored.ensures c.requires.size (subst (λ s. AllAwake (g.S.LinkStore.heap s)) (sym c.in_ok-new.ensures) c.requires.awake)
