use Rattle.lmn_debug.proofs.Exactness.{waits_are_exact}
use Rattle.lmn_debug.proofs.laws.waits_are_exact.Goals as goal

pub returns : goal.returns
returns c = waits_are_exact
