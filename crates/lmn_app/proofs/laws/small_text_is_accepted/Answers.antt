use Rattle.lmn_app.proofs.SmallTexts.{small_text_is_accepted}
use Rattle.lmn_app.proofs.laws.small_text_is_accepted.Goals as goal

pub returns : goal.returns
returns c = small_text_is_accepted
