use Rattle.std.proofs.Common.{◌<◌, subst, arith, rules}
use Rattle.lmn_store_heap.specs.Heap.{arity_of}
use Rattle.lmn_store_slab.specs.SlabStores.{kept_by}
use Rattle.lmn_store_slab.specs.Kept.{Kept, heap_of}
use Rattle.lmn_store_slab.proofs.ReadLemmas.{arity_is}
use Rattle.lmn_store_slab.proofs.slab_store.SlabStore.has_port.Goals as goal

pub returns-then-i-len-clause-port : goal.returns-then-i-len-clause-port
returns-then-i-len-clause-port c h =
    let e = arity_is (kept_by c.self.inside) c.args.a c.args.i c.in-Some.cell.now (search rules) in
    let len = c.len.ensures in
    let low = c.if-i-len.true in
    subst (λ (z : Kept). c.args.i < arity_of (heap_of z) c.args.a) c.self.view_is (omega (arith, e, len, low))
