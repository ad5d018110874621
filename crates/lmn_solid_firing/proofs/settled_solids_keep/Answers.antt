use Rattle.lmn_solid_firing.proofs.SettledRules as law
use Rattle.lmn_solid_firing.proofs.settled_solids_keep.Goals as goal

pub returns : goal.returns
returns c = law.settled_solids_keep
