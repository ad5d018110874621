use Rattle.lmn_verify_laws.proofs.Ready.{verified_is_in_order}
use Rattle.lmn_verify_laws.proofs.verified_is_in_order.Goals as goal

pub returns : goal.returns
returns c = verified_is_in_order
