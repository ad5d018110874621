use Rattle.std.proofs.Common.{subst, sym}
use Rattle.lmn_schedule_loading.specs.Loaded.{IsEmpty}
use Rattle.lmn_store_web.specs.WebHeaps.{heap_of}
use Rattle.lmn_app_drive.proofs.NewStores.{alone_is_empty}
use Rattle.lmn_debug.proofs.beginning.Beginning.engine.Goals as goal

pub load-requires-clause-store : goal.load-requires-clause-store
load-requires-clause-store g c =
    subst (λ s. IsEmpty (heap_of s)) (sym c.new-counting.ensures) (subst IsEmpty (sym c.in_ok-store.ensures.heap) (alone_is_empty c.in_ok-store.store.posts.root))
