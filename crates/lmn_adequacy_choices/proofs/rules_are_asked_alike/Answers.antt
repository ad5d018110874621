use Rattle.lmn_adequacy_choices.proofs.Asked as asked
use Rattle.lmn_adequacy_choices.proofs.rules_are_asked_alike.Goals as goal

pub returns : goal.returns
returns c = asked.rules_are_asked_alike c.accepted_heads.ensures c.code_means_embedding.ensures c.rules_embed_alike.ensures
