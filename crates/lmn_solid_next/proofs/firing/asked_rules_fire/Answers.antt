use Rattle.lmn_solid_next.proofs.Asked as law
use Rattle.lmn_solid_next.proofs.firing.asked_rules_fire.Goals as goal

pub returns : goal.returns
returns c = law.asked_rules_fire c.searched_rules_may_fire.ensures c.least_images_lie.ensures c.matches_are_of_embeddings.ensures c.firings_settle.ensures
