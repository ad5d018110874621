use Rattle.std.proofs.Common.{ℕ, ◌≡◌}
use Rattle.std.proofs.lemmas.Result.{IfOk-at_ok}
use Rattle.lmn_store_heap.specs.Heap.{made_mem}
use Rattle.lmn_store_slab.specs.Kept.{heap_of}
use Rattle.lmn_test_rows.proofs.MadeLemmas.{mem_made, made_same}
use Rattle.lmn_test_rows.proofs.making.add_membrane.Goals as goal

pub place_membrane-requires : goal.place_membrane-requires
place_membrane-requires g c =
    made_same (made_mem (heap_of c.args.store.now) _) _
    (IfOk-at_ok (λ (m : ℕ). heap_of c.make_mem.new.self ≡ made_mem (heap_of c.args.store.now) m) c.expect.ensures c.make_mem.ensures.ok)
    (mem_made (heap_of c.args.store.now) _ c.requires)
