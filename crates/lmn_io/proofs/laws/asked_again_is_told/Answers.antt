use Rattle.lmn_io.proofs.CountLemmas.{asked_again}
use Rattle.lmn_io.proofs.laws.asked_again_is_told.Goals as goal

pub returns : goal.returns
returns c = asked_again
