use Rattle.lmn_adequacy_turns.proofs.BoundExamples.{binds_from_left}
use Rattle.lmn_adequacy_turns.proofs.guards_bind_from_left.Goals as goal

pub returns : goal.returns
returns c = binds_from_left
