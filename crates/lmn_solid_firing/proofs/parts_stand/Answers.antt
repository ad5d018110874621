use Rattle.lmn_solid_firing.proofs.Standing as law
use Rattle.lmn_solid_firing.proofs.parts_stand.Goals as goal

pub returns : goal.returns
returns c = law.parts_stand
