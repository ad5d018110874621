use Rattle.std.proofs.Common.{subst, arith}
use Rattle.std.proofs.lemmas.List.{nil_from_length}
use Rattle.lmn_store_heap.specs.Conditions.{Alone}
use Rattle.lmn_store_slab.specs.Kept.{Kept, heap_of}
use Rattle.lmn_store_slab.proofs.HoldsLemmas.{line_there}
use Rattle.lmn_store_slab.proofs.CheckLemmas.{alone_of}
use Rattle.lmn_store_slab.proofs.slab_store.SlabStore.is_alone.Goals as goal

pub count-requires : goal.count-requires
count-requires c = line_there _ _ _ _ c.self.invariant 0 (omega arith)

pub returns : goal.returns
returns c h =
    let a = c.count.ensures in
    let a1 = c.if-count-ne0.false in
    subst (λ (z : Kept). Alone (heap_of z)) c.self.view_is (alone_of _ _ _ _ c.self.invariant (nil_from_length _ (omega (arith, a, a1))))
