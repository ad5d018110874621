use Rattle.lmn_verify_renaming.proofs.Heads.{heads_are_renamed}
use Rattle.lmn_verify_renaming.proofs.laws.heads_are_renamed.Goals as goal

pub returns : goal.returns
returns c = heads_are_renamed
