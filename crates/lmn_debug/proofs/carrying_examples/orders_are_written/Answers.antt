use Rattle.lmn_debug.proofs.ExampleOrders.{orders_are_written}
use Rattle.lmn_debug.proofs.carrying_examples.orders_are_written.Goals as goal

pub returns : goal.returns
returns c = orders_are_written c.steps_stop.ensures c.waits_stop.ensures
