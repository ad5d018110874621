use Rattle.std.proofs.Common.{subst, sym}
use Rattle.lmn_schedule_strategy.specs.Quieting.{AllAwake}
use Rattle.lmn_schedule.specs.Held.{HoldsSolid}
use Rattle.lmn_schedule.proofs.Loaded.{holds_solid}
use Rattle.lmn_schedule.proofs.AllWake.{loaded_on}
use Rattle.lmn_schedule.proofs.engine.Engine.load.Goals as goal

pub returns-in-Ok-clause-holds : goal.returns-in-Ok-clause-holds
returns-in-Ok-clause-holds g c names ns =
    subst (λ s. HoldsSolid names c.args.plain.now (g.S.LinkStore.heap s)) (sym c.in-Ok.ensures.store)
    (holds_solid c.loading_settles.ensures.settles c.loading_settles.ensures.rules c.plains_are_tables.ensures c.solids_are_regions.ensures names c.args.plain.now (g.S.LinkStore.heap c.rouse_all.new.store) c.requires.plain.made (loaded_on (g.S.LinkStore.heap c.load.new.store) (g.S.LinkStore.heap c.rouse_all.new.store) c.rouse_all.ensures.alike c.args.plain.now c.in_ok-load.ensures.loaded) ns)

pub rouse_all-requires : goal.rouse_all-requires
rouse_all-requires g c = c.in_ok-load.ensures.loaded.valid

pub over-requires-clause-store : goal.over-requires-clause-store
over-requires-clause-store g c = loaded_on (g.S.LinkStore.heap c.load.new.store) (g.S.LinkStore.heap c.rouse_all.new.store) c.rouse_all.ensures.alike c.args.plain.now c.in_ok-load.ensures.loaded

pub returns-in-Ok-clause-run : goal.returns-in-Ok-clause-run
returns-in-Ok-clause-run g c = (c.in-Ok.ensures.run, subst (λ s. AllAwake (g.S.LinkStore.heap s)) (sym c.in-Ok.ensures.store) c.rouse_all.ensures.awake)
