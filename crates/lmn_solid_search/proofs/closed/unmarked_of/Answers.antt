use Rattle.lmn_solid_search.specs.Walking.{IsMarked}
use Rattle.lmn_solid_search.proofs.ClosingLemmas.{others_more, others_all}
use Rattle.lmn_solid_search.proofs.closed.unmarked_of.Goals as goal
use Rattle.lmn_adequacy_heaps.proofs.OutOf.{index_in as item_in}

pub add_unmarked-requires : goal.add_unmarked-requires
add_unmarked-requires c = c.requires _ (item_in c.args.numbers.now c.loop-number.number-index c.loop-number-test.true)

pub loop-number-preserved : goal.loop-number-preserved
loop-number-preserved c = others_more (IsMarked c.args.seen.now) c.args.numbers.now c.loop-number.list c.add_unmarked.new.list c.loop-number.number-index c.loop-number-test.true c.loop-number.invariant c.in_ok-add_unmarked.ensures

pub returns : goal.returns
returns c = others_all (IsMarked c.args.seen.now) c.args.numbers.now c.loop-number.list c.loop-number.number-index c.loop-number-test.false c.loop-number.invariant
