use Rattle.std.proofs.Common.{◌≡◌, subst}
use Rattle.std.specs.Result.{OnOk}
use Rattle.lmn_store_heap.specs.Heap.{reserved, spare_of}
use Rattle.lmn_store_slab.specs.Kept.{heap_of}
use Rattle.lmn_test_rows.proofs.MadeLemmas.{room_made, made_same}
use Rattle.lmn_test_rows.proofs.making.make_room.Goals as goal

pub returns : goal.returns
returns g c =
    made_same (reserved (heap_of c.args.store.now) c.args.m (spare_of (heap_of c.reserve_rules.new.self) c.args.m)) _
    (subst (λ r. OnOk r (heap_of c.reserve_rules.new.self ≡ reserved (heap_of c.args.store.now) c.args.m (spare_of (heap_of c.reserve_rules.new.self) c.args.m))) c.expect.ensures c.reserve_rules.ensures.ok)
    (room_made (heap_of c.args.store.now) c.args.m _ c.requires)
