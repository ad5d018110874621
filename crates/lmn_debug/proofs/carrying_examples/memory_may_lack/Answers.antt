use Rattle.lmn_debug.proofs.ExampleOrders.{memory_may_lack}
use Rattle.lmn_debug.proofs.carrying_examples.memory_may_lack.Goals as goal

pub returns : goal.returns
returns c = memory_may_lack c.steps_stop.ensures
