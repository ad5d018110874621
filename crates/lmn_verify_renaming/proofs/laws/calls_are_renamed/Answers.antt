use Rattle.lmn_verify_renaming.proofs.Calls.{calls_are_renamed}
use Rattle.lmn_verify_renaming.proofs.laws.calls_are_renamed.Goals as goal

pub returns : goal.returns
returns c = calls_are_renamed
