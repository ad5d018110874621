use Rattle.lmn_app_reading.proofs.AcceptedOrRefused.{accepted_or_refused}
use Rattle.lmn_app_reading.proofs.laws.texts_are_accepted_or_refused.Goals as goal

pub returns : goal.returns
returns c = accepted_or_refused
