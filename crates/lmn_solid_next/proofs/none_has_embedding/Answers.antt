use Rattle.lmn_solid_next.proofs.Chosen as chosen
use Rattle.lmn_solid_next.proofs.none_has_embedding.Goals as goal

pub returns : goal.returns
returns c = chosen.none_has_embedding c.rules_embed_alike.ensures
