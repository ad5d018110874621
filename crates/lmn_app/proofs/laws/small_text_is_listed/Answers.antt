use Rattle.lmn_app.proofs.SmallListings.{small_text_is_listed}
use Rattle.lmn_app.proofs.laws.small_text_is_listed.Goals as goal

pub returns : goal.returns
returns c = small_text_is_listed
