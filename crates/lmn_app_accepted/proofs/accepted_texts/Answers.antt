use Rattle.lmn_app_accepted.proofs.AcceptedTexts.{accepted_texts}
use Rattle.lmn_app_accepted.proofs.accepted_texts.Goals as goal

pub returns : goal.returns
returns c = accepted_texts
