use Rattle.std.proofs.Common.{arith}
use Rattle.lmn_store_slab.proofs.GrowthLemmas.{number_sound, number_count, number_added}
use Rattle.lmn_store_slab.proofs.table.Table.add_number.Goals as goal

pub invariant_of-self-2 : goal.invariant_of-self-2
invariant_of-self-2 c = rw c.in_ok-push.ensures.items (number_sound _ _ c.self.invariant)

pub returns-clause-ok : goal.returns-clause-ok
returns-clause-ok c = (let k = number_count _ _ _ c.self.view_is c.self.invariant in let e = c.self.inside.nodes.ok.0 in omega arith, rw c.in_ok-push.ensures.items (number_added _ _ _ c.self.view_is c.self.invariant))
