use Rattle.std.proofs.Common.{ap, ◌∙◌, arith, length, get_or}
use Rattle.lmn_store_slab.specs.Lines.{HeldLists, list_at}
use Rattle.lmn_store_slab.proofs.CountLemmas.{length-lengths, lengths-at}
use Rattle.lmn_store_slab.proofs.lists.Lists.count.Goals as goal

pub index-requires : goal.index-requires
index-requires c =
    let n = ap length c.self.invariant in
    let m = length-lengths c.self.inside.table.lists in
    let w = ap (λ (h : HeldLists). length h.lists) c.self.view_is in
    let k = c.self.inside.counts.ok.0 in omega (arith, c.requires)

pub returns : goal.returns
returns c =
    let w = ap (λ (h : HeldLists). length h.lists) c.self.view_is in
    c.index.ensures ∙ ap (λ ns. get_or ns c.args.list c.index.result.now) c.self.invariant
    ∙ lengths-at c.self.inside.table.lists c.args.list c.index.result.now (omega (arith, c.requires))
    ∙ ap (λ (h : HeldLists). length (list_at h c.args.list)) c.self.view_is
