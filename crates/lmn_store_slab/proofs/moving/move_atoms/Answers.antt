use Rattle.std.proofs.Common.{◌∙◌}
use Rattle.lmn_store_slab.proofs.MovingLemmas.{atom_sends, first_is, first_only, moving_one, moves_fewer, moved_all_items}
use Rattle.lmn_store_slab.proofs.moving.move_atoms.Goals as goal

pub move_last-requires-clause-number : goal.move_last-requires-clause-number
move_last-requires-clause-number c =
    let first = rw c.in-Some.is at c.next_out.ensures in
    let law = atom_sends c.args.m c.args.n c.requires.two.differ in
    let i = c.loop-a.invariant in
    rw i.size (c.requires.numbers c.in-Some.a (i.moving.there c.in-Some.a (first_is _ _ _ _ _ c.requires.two.differ law _ _ _ _ i.moving c.in-Some.a first)))

pub move_last-requires-clause-only : goal.move_last-requires-clause-only
move_last-requires-clause-only c =
    let first = rw c.in-Some.is at c.next_out.ensures in
    first_only _ _ _ _ _ c.requires.two.differ (atom_sends c.args.m c.args.n c.requires.two.differ) _ _ _ _ c.loop-a.invariant.moving c.in-Some.a first

pub loop-a-smaller : goal.loop-a-smaller
loop-a-smaller c =
    let first = rw c.in-Some.is at c.next_out.ensures in
    moves_fewer _ _ _ _ _ c.requires.two.differ (atom_sends c.args.m c.args.n c.requires.two.differ) _ _ _ _ c.loop-a.invariant.moving c.in-Some.a first _ c.move_last.ensures.lists

pub loop-a-preserved : goal.loop-a-preserved
loop-a-preserved c =
    let first = rw c.in-Some.is at c.next_out.ensures in
    let i = c.loop-a.invariant in
    record {
      moving = moving_one _ _ _ _ _ c.requires.two.differ (atom_sends c.args.m c.args.n c.requires.two.differ) _ _ _ _ i.moving c.in-Some.a first _ _ c.move_last.ensures.lists c.set_list.ensures;
      lengths = c.move_last.ensures.sizes.lists ∙ i.lengths;
      size = c.move_last.ensures.sizes.size ∙ i.size;
    }

pub returns-clause-atoms : goal.returns-clause-atoms
returns-clause-atoms c =
    moved_all_items _ _ _ _ _ c.requires.two.differ (atom_sends c.args.m c.args.n c.requires.two.differ) _ _ _ _ c.loop-a.invariant.moving (rw c.in_default.is at c.next_out.ensures)

pub returns-clause-sizes : goal.returns-clause-sizes
returns-clause-sizes c = record { lists = c.loop-a.invariant.lengths; size = c.loop-a.invariant.size }
