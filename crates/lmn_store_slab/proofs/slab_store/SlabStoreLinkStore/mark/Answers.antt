use Rattle.std.proofs.Common.{◌∙◌, ◌≤◌, sym, ap, subst, arith}
use Rattle.lmn_store_heap.specs.Heap.{mark_of, arity_of}
use Rattle.lmn_store_slab.specs.SlabStores.{kept_by}
use Rattle.lmn_store_slab.specs.Kept.{Kept, heap_of}
use Rattle.lmn_store_slab.proofs.ReadLemmas.{mark_is, own_mark_is, slot_there}
use Rattle.lmn_store_slab.proofs.slab_store.SlabStoreLinkStore.mark.Goals as goal

pub returns-then-slot-len : goal.returns-then-slot-len
returns-then-slot-len c =
    sym (mark_is (kept_by c.self.inside) c.args.a c.args.slot c.index-cell.result.now c.index-cell.ensures c.at.result.now c.at.ensures) ∙ ap (λ (z : Kept). mark_of (heap_of z) c.args.a c.args.slot) c.self.view_is

pub returns-else-slot-len : goal.returns-else-slot-len
returns-else-slot-len c =
    let low = slot_there (kept_by c.self.inside) c.args.a c.args.slot c.index-cell.result.now c.index-cell.ensures (subst (λ (z : Kept). c.args.slot ≤ arity_of (heap_of z) c.args.a) (sym c.self.view_is) c.requires.slot) in
    let len = c.len.ensures in
    let past = c.if-slot-len.false in
    sym (own_mark_is (kept_by c.self.inside) c.args.a c.args.slot c.index-cell.result.now c.index-cell.ensures (omega (arith, low, len, past))) ∙ ap (λ (z : Kept). mark_of (heap_of z) c.args.a c.args.slot) c.self.view_is
