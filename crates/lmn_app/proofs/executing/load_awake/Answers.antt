use Rattle.lmn_schedule.proofs.AllWake.{loaded_on}
use Rattle.lmn_app.proofs.executing.load_awake.Goals as goal

pub rouse_all-requires : goal.rouse_all-requires
rouse_all-requires g c = c.in_ok-load.ensures.loaded.valid

pub returns-clause-loaded : goal.returns-clause-loaded
returns-clause-loaded g c = loaded_on (g.S.LinkStore.heap c.load.new.store) (g.S.LinkStore.heap c.rouse_all.new.store) c.rouse_all.ensures.alike c.args.plain.now c.in_ok-load.ensures.loaded
