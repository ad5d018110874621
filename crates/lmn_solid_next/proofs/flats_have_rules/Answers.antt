use Rattle.lmn_solid_next.proofs.FlatRules as law
use Rattle.lmn_solid_next.proofs.flats_have_rules.Goals as goal

pub returns : goal.returns
returns c = law.flats_have_rules
