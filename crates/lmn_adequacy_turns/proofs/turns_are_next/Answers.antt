use Rattle.lmn_adequacy_turns.proofs.TurnsNext.{turn_is_next}
use Rattle.lmn_adequacy_turns.proofs.turns_are_next.Goals as goal

pub returns : goal.returns
returns c = turn_is_next c.accepted_rules_fire.ensures c.accepted_heads.ensures c.accepted_bodies.ensures.nested
