use Rattle.lmn_adequacy_choices.proofs.Asked as asked
use Rattle.lmn_adequacy_choices.proofs.nothing_embeds_there.Goals as goal

pub returns : goal.returns
returns c = asked.nothing_embeds_there c.accepted_heads.ensures c.code_means_embedding.ensures c.rules_embed_alike.ensures
