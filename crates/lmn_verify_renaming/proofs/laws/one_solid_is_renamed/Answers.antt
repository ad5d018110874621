use Rattle.lmn_verify_renaming.proofs.Alike.{one_solid_is_renamed}
use Rattle.lmn_verify_renaming.proofs.laws.one_solid_is_renamed.Goals as goal

pub returns : goal.returns
returns c = one_solid_is_renamed
