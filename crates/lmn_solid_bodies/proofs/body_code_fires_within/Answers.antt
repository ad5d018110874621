use Rattle.lmn_solid_bodies.proofs.Laws.{body_fires_within}
use Rattle.lmn_solid_bodies.proofs.body_code_fires_within.Goals as goal

pub returns : goal.returns
returns c = body_fires_within
