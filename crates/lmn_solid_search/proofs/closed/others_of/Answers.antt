use Rattle.lmn_base.specs.Lists.{In}
use Rattle.lmn_solid_search.proofs.ClosingLemmas.{others_more, others_all}
use Rattle.lmn_solid_search.proofs.closed.others_of.Goals as goal

pub loop-number-preserved : goal.loop-number-preserved
loop-number-preserved c = others_more (λ a. In a c.args.others.now) c.args.numbers.now c.loop-number.list c.add_other.new.list c.loop-number.number-index c.loop-number-test.true c.loop-number.invariant c.in_ok-add_other.ensures

pub returns : goal.returns
returns c = others_all (λ a. In a c.args.others.now) c.args.numbers.now c.loop-number.list c.loop-number.number-index c.loop-number-test.false c.loop-number.invariant
