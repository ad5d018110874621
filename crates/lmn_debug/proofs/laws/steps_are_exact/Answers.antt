use Rattle.lmn_debug.proofs.Exactness.{steps_are_exact}
use Rattle.lmn_debug.proofs.laws.steps_are_exact.Goals as goal

pub returns : goal.returns
returns c = steps_are_exact
