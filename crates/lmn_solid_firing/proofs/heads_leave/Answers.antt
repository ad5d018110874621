use Rattle.lmn_solid_firing.proofs.Leaving as law
use Rattle.lmn_solid_firing.proofs.heads_leave.Goals as goal

pub returns : goal.returns
returns c = law.heads_leave
