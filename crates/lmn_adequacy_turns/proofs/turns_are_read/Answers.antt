use Rattle.lmn_adequacy_turns.proofs.ReadAgain.{turn_is_read}
use Rattle.lmn_adequacy_turns.proofs.turns_are_read.Goals as goal

pub returns : goal.returns
returns c = turn_is_read c.accepted_rules_fire.ensures c.accepted_heads.ensures c.accepted_bodies.ensures.nested
