use Rattle.lmn_verify_renaming.proofs.Solids.{solids_are_renamed}
use Rattle.lmn_verify_renaming.proofs.laws.solids_are_renamed.Goals as goal

pub returns : goal.returns
returns c = solids_are_renamed
