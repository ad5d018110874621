use Rattle.lmn_solid_bodies.proofs.Meant.{body_code_is_meant}
use Rattle.lmn_solid_bodies.proofs.body_code_is_meant.Goals as goal

pub returns : goal.returns
returns c = body_code_is_meant
