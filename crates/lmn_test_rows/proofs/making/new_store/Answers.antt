use Rattle.std.proofs.Common.{◌≡◌}
use Rattle.std.proofs.lemmas.Result.{IfOk-at_ok}
use Rattle.lmn_store_heap.specs.Heap.{lone_root}
use Rattle.lmn_store_slab.specs.Kept.{heap_of}
use Rattle.lmn_test_rows.proofs.MadeLemmas.{lone_made, made_same}
use Rattle.lmn_test_rows.proofs.making.new_store.Goals as goal

pub returns : goal.returns
returns g c = made_same lone_root (heap_of c.expect.result) (IfOk-at_ok (λ s. heap_of s ≡ lone_root) c.expect.ensures c.new.ensures.heap) lone_made
