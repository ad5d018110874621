use Rattle.std.proofs.Common.{arith}
use Rattle.lmn_store_slab.proofs.CountLemmas.{count_within, push_small, push_counts}
use Rattle.lmn_store_slab.proofs.lists.Lists.push_last.Goals as goal

pub index_mut-requires : goal.index_mut-requires
index_mut-requires c = let w = count_within _ _ _ c.self.view_is c.self.invariant c.args.list c.requires.list in let k = c.self.inside.counts.ok.0 in omega arith

pub overflow_add-index_mut : goal.overflow_add-index_mut
overflow_add-index_mut c =
    let small = push_small _ _ _ c.self.view_is c.self.invariant c.args.list c.requires.list c.index_mut.result.now c.index_mut.ensures.value _ c.args.x c.push_last.ensures.lists c.push_last.ensures.fits in
    omega arith

pub invariant_of-self : goal.invariant_of-self
invariant_of-self c =
    push_counts _ _ _ c.self.view_is c.self.invariant c.args.list c.requires.list c.index_mut.result.now c.index_mut.ensures.value _ c.args.x c.push_last.ensures.lists
