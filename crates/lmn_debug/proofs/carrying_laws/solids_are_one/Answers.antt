use Rattle.lmn_debug.proofs.OneOutcome.{solids_are_one}
use Rattle.lmn_debug.proofs.carrying_laws.solids_are_one.Goals as goal

pub returns : goal.returns
returns c = solids_are_one
