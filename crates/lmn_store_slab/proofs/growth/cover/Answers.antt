use Rattle.std.proofs.Common.{ap, ◌∙◌, length, arith}
use Rattle.lmn_store_slab.specs.Lines.{HeldLists, list_at}
use Rattle.lmn_store_slab.proofs.growth.cover.Goals as goal

pub loop-lists-preserved : goal.loop-lists-preserved
loop-lists-preserved c =
    let ok = c.in_ok-add_number.ensures.ok in
    let i = c.loop-lists.invariant in
    let size = ap (λ (h : HeldLists). h.size) ok in
    let grows = i.grows in
    record {
      same = ap (λ (h : HeldLists). list_at h) ok ∙ i.same;
      count = ap (λ (h : HeldLists). length h.lists) ok ∙ i.count;
      grows = omega arith;
    }
