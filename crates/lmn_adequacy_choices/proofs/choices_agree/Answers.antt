use Rattle.lmn_schedule_strategy.proofs.RestsFound.{rests_of_rule}
use Rattle.lmn_adequacy_choices.proofs.Choices as choices
use Rattle.lmn_adequacy_choices.proofs.choices_agree.Goals as goal

pub returns : goal.returns
returns c = choices.choices_agree c.accepted_heads.ensures c.code_means_embedding.ensures c.rules_embed_alike.ensures c.accepted_least.ensures c.least_embeddings_are_alike.ensures c.heaps_are_numbered.ensures c.next_is_one.ensures.renamed c.firings_commit.ensures c.turns_commit.ensures
    (rests_of_rule c.accepted_sets_items.ensures c.accepted_bodies.ensures.nested c.accepted_least.ensures)
