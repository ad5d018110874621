use Rattle.lmn_verify_laws.proofs.VerifiedIsFlat.{verified_is_flat}
use Rattle.lmn_verify_laws.proofs.verified_is_flat.Goals as goal

pub returns : goal.returns
returns c = verified_is_flat
