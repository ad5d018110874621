use Rattle.std.proofs.Common.{subst, sym}
use Rattle.lmn_app_drive.proofs.NewStores.{alone_is_empty}
use Rattle.lmn_schedule_loading.specs.Loaded.{IsEmpty}
use Rattle.lmn_store_web.specs.WebHeaps.{heap_of}
use Rattle.lmn_app.proofs.debugging.debug_by.Goals as goal

pub debug_in-requires-clause-store : goal.debug_in-requires-clause-store
debug_in-requires-clause-store g c =
    subst (λ s. IsEmpty (heap_of s)) (sym c.new-counting.ensures) (subst IsEmpty (sym c.in-Ok.ensures.heap) (alone_is_empty c.in-Ok.store.posts.root))
