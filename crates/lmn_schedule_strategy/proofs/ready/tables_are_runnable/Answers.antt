use Rattle.lmn_schedule_strategy.proofs.Runnable.{tables_are_runnable}
use Rattle.lmn_schedule_strategy.proofs.ready.tables_are_runnable.Goals as goal

pub returns : goal.returns
returns c = tables_are_runnable c.accepted_in_order.ensures c.accepted_sets_items.ensures c.bodies_are_ready.ensures c.bodies_can_be_committed.ensures c.accepted_bodies.ensures.nested c.accepted_least.ensures c.commits_cost_what_is_told.ensures
