use Rattle.std.proofs.Common.{subst, sym, ◌≡◌}
use Rattle.std.proofs.lemmas.Result.{IfOk-at_ok}
use Rattle.lmn_schedule_loading.specs.Loaded.{IsEmpty}
use Rattle.lmn_store_web.specs.WebHeaps.{alone, heap_of}
use Rattle.lmn_app_drive.proofs.NewStores.{alone_is_empty}
use Rattle.lmn_test_alike.proofs.stores.run_row.Goals as goal

pub lines_in-web_end-requires-clause-store : goal.lines_in-web_end-requires-clause-store
lines_in-web_end-requires-clause-store g c = subst IsEmpty (sym (IfOk-at_ok (λ s. heap_of s ≡ alone s.posts.root) c.expect-web.ensures c.new-6.ensures.heap)) (alone_is_empty c.expect-web.result.posts.root)
