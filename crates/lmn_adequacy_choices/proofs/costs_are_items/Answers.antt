use Rattle.lmn_schedule_strategy.proofs.RestsFound.{rests_of_rule}
use Rattle.lmn_adequacy_choices.proofs.Items as items
use Rattle.lmn_adequacy_choices.proofs.costs_are_items.Goals as goal

pub returns : goal.returns
returns c = items.costs_are_items c.commits_cost_what_is_told.ensures (rests_of_rule c.accepted_sets_items.ensures c.accepted_bodies.ensures.nested c.accepted_least.ensures)
