use Rattle.lmn_debug.proofs.ExampleOrders.{lines_may_fail}
use Rattle.lmn_debug.proofs.carrying_examples.lines_may_fail.Goals as goal

pub returns : goal.returns
returns c = lines_may_fail c.steps_stop.ensures
