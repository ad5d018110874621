use Rattle.lmn_schedule_strategy.proofs.RestsFound.{rests_of_rule}
use Rattle.lmn_adequacy_choices.proofs.Full as full
use Rattle.lmn_adequacy_choices.proofs.costs_are_told.Goals as goal

pub returns : goal.returns
returns c = full.costs_are_told c.accepted_heads.ensures c.accepted_least.ensures c.accepted_bodies.ensures.nested c.accepted_sets_items.ensures
    (rests_of_rule c.accepted_sets_items.ensures c.accepted_bodies.ensures.nested c.accepted_least.ensures) c.body_code_can_run.ensures c.links_have_numbers.ensures c.choices_agree.ensures c.costs_are_items.ensures
