use Rattle.std.proofs.Common.{arith}
use Rattle.lmn_store_slab.proofs.CountLemmas.{count_within, unlink_one, unlink_counts}
use Rattle.lmn_store_slab.proofs.lists.Lists.unlink.Goals as goal

pub index_mut-requires : goal.index_mut-requires
index_mut-requires c = let w = count_within _ _ _ c.self.view_is c.self.invariant c.args.list c.requires.list in let k = c.self.inside.counts.ok.0 in omega arith

pub overflow_sub-index_mut : goal.overflow_sub-index_mut
overflow_sub-index_mut c = unlink_one _ _ _ c.self.view_is c.self.invariant c.args.list c.requires.list c.index_mut.result.now c.index_mut.ensures.value c.args.x c.requires.there

pub invariant_of-self : goal.invariant_of-self
invariant_of-self c =
    unlink_counts _ _ _ c.self.view_is c.self.invariant c.args.list c.requires.list c.index_mut.result.now c.index_mut.ensures.value c.args.x c.requires.there _ c.unlink.ensures.lists
