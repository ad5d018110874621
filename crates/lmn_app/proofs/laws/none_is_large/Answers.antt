use Rattle.lmn_app.proofs.FewAtStart.{accepted_is_small, none_is_large}
use Rattle.lmn_app.proofs.laws.none_is_large.Goals as goal

pub returns : goal.returns
returns c = record { accepted = accepted_is_small; refused = none_is_large }
