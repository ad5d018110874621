use Rattle.lmn_adequacy_choices.proofs.Choices as choices
use Rattle.lmn_adequacy_choices.proofs.choices_alike.Goals as goal

pub returns : goal.returns
returns c = choices.choices_alike c.accepted_heads.ensures c.code_means_embedding.ensures c.rules_embed_alike.ensures c.accepted_least.ensures c.least_embeddings_are_alike.ensures c.embeddings_fire.ensures c.numbering_is_one.ensures.exists c.next_is_one.ensures.renamed
