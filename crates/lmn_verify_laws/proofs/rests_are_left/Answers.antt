use Rattle.lmn_verify_laws.proofs.RestsThere.{rests_there}
use Rattle.lmn_verify_laws.proofs.rests_are_left.Goals as goal

pub returns : goal.returns
returns c = rests_there
