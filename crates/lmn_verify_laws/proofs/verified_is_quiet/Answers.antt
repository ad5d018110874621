use Rattle.lmn_verify_laws.proofs.Quiet.{verified_are_quiet, verified_is_quiet}
use Rattle.lmn_verify_laws.proofs.verified_is_quiet.Goals as goal

pub returns : goal.returns
returns c = record { one = verified_is_quiet; all = verified_are_quiet }
