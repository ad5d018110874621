use Rattle.lmn_machine_laws.proofs.Laws.{cost_is_told}
use Rattle.lmn_machine_laws.proofs.commits_cost_what_is_told.Goals as goal

pub returns : goal.returns
returns c = cost_is_told c.accepted_least.ensures c.accepted_bodies.ensures.nested
