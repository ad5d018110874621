use Rattle.lmn_debug.proofs.OneOutcome.{writing_is_one}
use Rattle.lmn_debug.proofs.carrying_laws.writing_is_one.Goals as goal

pub returns : goal.returns
returns c = writing_is_one
