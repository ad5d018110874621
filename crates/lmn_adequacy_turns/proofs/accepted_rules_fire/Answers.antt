use Rattle.lmn_adequacy_turns.proofs.Accepted.{accepted_fires}
use Rattle.lmn_adequacy_turns.proofs.accepted_rules_fire.Goals as goal

pub returns : goal.returns
returns c = accepted_fires c.accepted_least.ensures c.accepted_bodies.ensures.nested
