use Rattle.std.proofs.Common.{◌≡◌, subst, arith, rules}
use Rattle.std.proofs.lemmas.List.{nil_from_length}
use Rattle.lmn_store_heap.specs.Sound.{AllInPlace}
use Rattle.lmn_store_slab.specs.Kept.{Kept, heap_of}
use Rattle.lmn_store_slab.proofs.HoldsLemmas.{line_there, mem_line_there}
use Rattle.lmn_store_slab.proofs.CheckLemmas.{settled_of}
use Rattle.lmn_store_slab.proofs.slab_store.SlabStore.is_settled.Goals as goal

pub count-requires : goal.count-requires
count-requires c = line_there _ _ _ _ c.self.invariant 0 (omega arith)

pub count-requires-2 : goal.count-requires-2
count-requires-2 c = line_there _ _ _ _ c.self.invariant 1 (omega arith)

pub count-requires-3 : goal.count-requires-3
count-requires-3 c = mem_line_there _ _ _ _ c.self.invariant 0 (omega arith)

pub count-requires-4 : goal.count-requires-4
count-requires-4 c = mem_line_there _ _ _ _ c.self.invariant 1 (omega arith)

pub returns : goal.returns
returns c h =
    let a = c.count.ensures in
    let a1 = c.if-count-ne0.false in
    let b = c.count-2.ensures in
    let b1 = c.if-count-ne0-2.false in
    let d = c.count-3.ensures in
    let d1 = c.if-count-ne0-3.false in
    let e = c.count-4.ensures in
    let e1 : c.count-4.result ≡ 0 = (search rules) in
    subst (λ (z : Kept). AllInPlace (heap_of z)) c.self.view_is
    (settled_of _ _ _ _ c.self.invariant (nil_from_length _ (omega (arith, a, a1))) (nil_from_length _ (omega (arith, b, b1))) (nil_from_length _ (omega (arith, d, d1))) (nil_from_length _ (omega (arith, e, e1))))
