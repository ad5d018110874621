use Rattle.lmn_verify_laws.proofs.Fires.{verified_fires}
use Rattle.lmn_verify_laws.proofs.verified_fires.Goals as goal

pub returns : goal.returns
returns c = verified_fires
