use Rattle.lmn_solid_next.proofs.Lying as lying
use Rattle.lmn_solid_next.proofs.least_images_lie.Goals as goal

pub returns : goal.returns
returns c = lying.least_images_lie c.accepted_heads.ensures c.accepted_least.ensures c.bound_names_have_values.ensures c.rules_embed_alike.ensures c.least_embeddings_are_alike.ensures
