use Rattle.lmn_machine_laws.proofs.Laws.{body_cost_is_told}
use Rattle.lmn_machine_laws.proofs.bodies_cost_what_is_told.Goals as goal

pub returns : goal.returns
returns c = body_cost_is_told
