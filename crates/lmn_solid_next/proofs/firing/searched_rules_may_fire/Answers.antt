use Rattle.lmn_solid_next.proofs.Searched as law
use Rattle.lmn_solid_next.proofs.firing.searched_rules_may_fire.Goals as goal

pub returns : goal.returns
returns c = law.searched_rules_may_fire c.flats_are_read.ensures c.flats_have_rules.ensures
