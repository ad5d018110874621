use Rattle.lmn_solid_search.proofs.ClosingLemmas.{all_more, all_added}
use Rattle.lmn_solid_search.proofs.closed.add_all.Goals as goal

pub loop-number-preserved : goal.loop-number-preserved
loop-number-preserved c = all_more c.args.numbers.now c.args.list.now c.loop-number.list c.push.new.self c.loop-number.number-index c.loop-number-test.true c.in_ok-push.ensures.ok c.loop-number.invariant

pub returns : goal.returns
returns c = all_added c.args.numbers.now c.args.list.now c.loop-number.list c.loop-number.number-index c.loop-number-test.false c.loop-number.invariant
