use Rattle.std.proofs.Common.{◌∙◌, ap, length, arith, ◌++◌, ◌∷◌, []}
use Rattle.lmn_store_slab.proofs.CountLemmas.{list_more, more_counts, length-lengths}
use Rattle.lmn_store_slab.proofs.lists.Lists.add_list.Goals as goal

pub invariant_of-self-2 : goal.invariant_of-self-2
invariant_of-self-2 c =
    c.push_reserved.ensures.items ∙ ap (λ ns. ns ++ 0 ∷ []) c.reserve.ensures.items ∙ more_counts c.self.inside.table c.self.inside.counts.items c.self.invariant _ c.in_ok-list.ensures.ok.1

pub returns-clause-lists : goal.returns-clause-lists
returns-clause-lists c = list_more c.self.inside.table _ _ c.self.view_is c.in_ok-list.ensures.ok.1

pub returns-clause-fits : goal.returns-clause-fits
returns-clause-fits c =
    let counts = c.push_reserved.ensures.items ∙ ap (λ ns. ns ++ 0 ∷ []) c.reserve.ensures.items ∙ more_counts c.self.inside.table c.self.inside.counts.items c.self.invariant _ c.in_ok-list.ensures.ok.1 in
    let n = ap length counts ∙ length-lengths c.add_list.new.self.lists in
    let ok = c.push_reserved.new.self.ok in
    let small = c.push_reserved.new.self.small in
    omega (arith, ok.0, ok.1, small)
