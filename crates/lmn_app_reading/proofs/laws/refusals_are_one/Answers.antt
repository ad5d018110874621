use Rattle.lmn_app_reading.proofs.OneRead.{one_refusal, refused_not_accepted}
use Rattle.lmn_app_reading.proofs.laws.refusals_are_one.Goals as goal

pub returns-clause-accepted : goal.returns-clause-accepted
returns-clause-accepted c = refused_not_accepted

pub returns-clause-one : goal.returns-clause-one
returns-clause-one c = one_refusal
