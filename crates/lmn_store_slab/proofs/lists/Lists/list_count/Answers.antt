use Rattle.std.proofs.Common.{ap, length, arith}
use Rattle.lmn_store_slab.specs.Lines.{HeldLists}
use Rattle.lmn_store_slab.proofs.CountLemmas.{length-lengths}
use Rattle.lmn_store_slab.proofs.lists.Lists.list_count.Goals as goal

pub returns : goal.returns
returns c =
    let n = ap length c.self.invariant in
    let m = length-lengths c.self.inside.table.lists in
    let w = ap (λ (h : HeldLists). length h.lists) c.self.view_is in
    let k = c.self.inside.counts.ok.0 in omega arith
