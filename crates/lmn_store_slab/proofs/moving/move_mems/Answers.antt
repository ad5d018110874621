use Rattle.std.proofs.Common.{◌∙◌}
use Rattle.lmn_store_slab.proofs.MovingLemmas.{mem_sends, first_is, first_only, moving_one, moves_fewer, moved_all_items}
use Rattle.lmn_store_slab.proofs.moving.move_mems.Goals as goal

pub move_last-requires-clause-number : goal.move_last-requires-clause-number
move_last-requires-clause-number c =
    let first = rw c.in-Some.is at c.next_out.ensures in
    let law = mem_sends c.args.m c.args.n c.requires.two.differ in
    let i = c.loop-k.invariant in
    rw i.size (c.requires.numbers c.in-Some.k (i.moving.there c.in-Some.k (first_is _ _ _ _ _ c.requires.two.differ law _ _ _ _ i.moving c.in-Some.k first)))

pub move_last-requires-clause-only : goal.move_last-requires-clause-only
move_last-requires-clause-only c =
    let first = rw c.in-Some.is at c.next_out.ensures in
    first_only _ _ _ _ _ c.requires.two.differ (mem_sends c.args.m c.args.n c.requires.two.differ) _ _ _ _ c.loop-k.invariant.moving c.in-Some.k first

pub loop-k-smaller : goal.loop-k-smaller
loop-k-smaller c =
    let first = rw c.in-Some.is at c.next_out.ensures in
    moves_fewer _ _ _ _ _ c.requires.two.differ (mem_sends c.args.m c.args.n c.requires.two.differ) _ _ _ _ c.loop-k.invariant.moving c.in-Some.k first _ c.move_last.ensures.lists

pub loop-k-preserved : goal.loop-k-preserved
loop-k-preserved c =
    let first = rw c.in-Some.is at c.next_out.ensures in
    let i = c.loop-k.invariant in
    record {
      moving = moving_one _ _ _ _ _ c.requires.two.differ (mem_sends c.args.m c.args.n c.requires.two.differ) _ _ _ _ i.moving c.in-Some.k first _ _ c.move_last.ensures.lists c.set_mem_list.ensures;
      lengths = c.move_last.ensures.sizes.lists ∙ i.lengths;
      size = c.move_last.ensures.sizes.size ∙ i.size;
    }

pub returns-clause-mems : goal.returns-clause-mems
returns-clause-mems c =
    moved_all_items _ _ _ _ _ c.requires.two.differ (mem_sends c.args.m c.args.n c.requires.two.differ) _ _ _ _ c.loop-k.invariant.moving (rw c.in_default.is at c.next_out.ensures)

pub returns-clause-sizes : goal.returns-clause-sizes
returns-clause-sizes c = record { lists = c.loop-k.invariant.lengths; size = c.loop-k.invariant.size }
