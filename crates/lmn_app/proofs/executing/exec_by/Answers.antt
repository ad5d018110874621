use Rattle.std.proofs.Common.{subst, sym}
use Rattle.lmn_app_drive.proofs.NewStores.{alone_is_empty}
use Rattle.lmn_schedule_loading.specs.Loaded.{IsEmpty}
use Rattle.lmn_app.proofs.executing.exec_by.Goals as goal

pub exec_in-requires-clause-store : goal.exec_in-requires-clause-store
exec_in-requires-clause-store g c = subst IsEmpty (sym c.in-Ok.ensures.heap) (alone_is_empty c.in-Ok.store.posts.root)
