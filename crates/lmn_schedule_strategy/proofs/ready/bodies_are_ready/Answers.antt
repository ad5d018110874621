use Rattle.lmn_schedule_strategy.proofs.ReadyBodies.{bodies_are_ready}
use Rattle.lmn_schedule_strategy.proofs.ready.bodies_are_ready.Goals as goal

pub returns : goal.returns
returns c = bodies_are_ready c.accepted_heads.ensures c.accepted_sets_items.ensures c.accepted_bodies.ensures.nested c.bodies_are_in_order.ensures
