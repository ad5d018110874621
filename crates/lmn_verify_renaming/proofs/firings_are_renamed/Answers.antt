use Rattle.lmn_verify_renaming.proofs.Firings.{firings_are_renamed}
use Rattle.lmn_verify_renaming.proofs.firings_are_renamed.Goals as goal

pub returns : goal.returns
returns c = firings_are_renamed
