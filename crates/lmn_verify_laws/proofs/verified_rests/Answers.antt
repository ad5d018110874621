use Rattle.lmn_verify_laws.proofs.Rests.{verified_copies_closed, verified_holds_rests}
use Rattle.lmn_verify_laws.proofs.verified_rests.Goals as goal

pub returns : goal.returns
returns c = record { closed = verified_copies_closed; held = verified_holds_rests }
