use Rattle.lmn_solid_bodies.proofs.Laws.{body_fires}
use Rattle.lmn_solid_bodies.proofs.body_code_fires.Goals as goal

pub returns : goal.returns
returns c = body_fires
