use Rattle.lmn_schedule_loading.proofs.PlainLinks.{all_connectors}
use Rattle.lmn_schedule_loading.proofs.leaves.+add_connectors.Goals as goal

pub returns : goal.returns
returns t c = all_connectors c.args.pairs.now c.loop-inner.pairs c.args.level.now c.as_slice-inner-items.result.now c.loop-inner.inner-index c.as_slice-inner-items.ensures c.loop-inner-test.false c.loop-inner.invariant
