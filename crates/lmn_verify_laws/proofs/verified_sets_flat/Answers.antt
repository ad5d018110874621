use Rattle.lmn_verify_laws.proofs.Integers.{verified_sets_flat}
use Rattle.lmn_verify_laws.proofs.verified_sets_flat.Goals as goal

pub returns : goal.returns
returns c = verified_sets_flat
