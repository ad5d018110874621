use Rattle.lmn_solid_bodies.proofs.Laws.{body_can_run}
use Rattle.lmn_solid_bodies.proofs.body_code_can_run.Goals as goal

pub returns : goal.returns
returns c = body_can_run
