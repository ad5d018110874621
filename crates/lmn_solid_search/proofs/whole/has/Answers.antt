use Rattle.std.proofs.Common.{refl, subst}
use Rattle.lmn_base.specs.Lists.{In}
use Rattle.lmn_solid_search.proofs.WholeLemmas.{not_so_far}
use Rattle.lmn_solid_search.proofs.whole.has.Goals as goal
use Rattle.lmn_adequacy_heaps.proofs.OutOf.{index_in as item_in}

pub returns-then-other-number : goal.returns-then-other-number
returns-then-other-number c = ((λ z. subst (λ n. In n c.args.list.now) c.if-other-number.true (item_in c.args.list.now c.loop-other.other-index c.loop-other-test.true)), λ i. refl)

pub loop-other-preserved : goal.loop-other-preserved
loop-other-preserved c = not_so_far c.args.number c.args.list.now c.loop-other.other-index c.loop-other-test.true c.if-other-number.false c.loop-other.invariant
