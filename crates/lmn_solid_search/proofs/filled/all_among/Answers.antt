use Rattle.std.proofs.Common.{refl}
use Rattle.lmn_base.specs.Lists.{In}
use Rattle.lmn_solid_search.proofs.WholeLemmas.{in_whole, all_so_far}
use Rattle.lmn_solid_search.proofs.PairingLemmas.{port_differs}
use Rattle.lmn_solid_search.proofs.filled.all_among.Goals as goal
use Rattle.lmn_adequacy_heaps.proofs.OutOf.{index_in as item_in}

pub returns-then-not-has : goal.returns-then-not-has
returns-then-not-has c = ((λ z. absurd (cc)), λ f. absurd (port_differs c.has.ensures.1 c.if-not-has.true (f _ (item_in c.args.numbers.now c.loop-number.number-index c.loop-number-test.true))))

pub loop-number-preserved : goal.loop-number-preserved
loop-number-preserved c = all_so_far (λ a. In a c.args.others.now) c.args.numbers.now c.loop-number.number-index c.loop-number-test.true (c.has.ensures.0 c.if-not-has.false) c.loop-number.invariant

pub returns : goal.returns
returns c = ((λ z a i. c.loop-number.invariant a (in_whole a c.args.numbers.now c.loop-number.number-index c.loop-number-test.false i)), λ f. refl)
