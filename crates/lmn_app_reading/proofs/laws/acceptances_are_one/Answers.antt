use Rattle.lmn_app_reading.proofs.OneRead.{one_acceptance}
use Rattle.lmn_app_reading.proofs.laws.acceptances_are_one.Goals as goal

pub returns : goal.returns
returns c = one_acceptance
