use Rattle.lmn_verify_laws.proofs.RestsBack.{rests_back}
use Rattle.lmn_verify_laws.proofs.rests_are_held.Goals as goal

pub returns : goal.returns
returns c = rests_back
