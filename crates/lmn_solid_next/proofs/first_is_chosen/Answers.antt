use Rattle.lmn_solid_next.proofs.Chosen as chosen
use Rattle.lmn_solid_next.proofs.first_is_chosen.Goals as goal

pub returns : goal.returns
returns c = chosen.first_is_chosen c.least_images_lie.ensures c.rules_embed_alike.ensures
