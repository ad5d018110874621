use Rattle.lmn_solid_bodies.proofs.Worked as worked
use Rattle.lmn_solid_bodies.proofs.worked_bodies.Goals as goal

pub returns : goal.returns
returns c = worked.worked_bodies
