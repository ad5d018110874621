use Rattle.lmn_app.proofs.TextLemmas.{accepted_or_refused}
use Rattle.lmn_app.proofs.laws.texts_are_accepted_or_refused.Goals as goal

pub returns : goal.returns
returns c = accepted_or_refused
