use Rattle.lmn_debug.proofs.Exactness.{courses_are_one}
use Rattle.lmn_debug.proofs.laws.courses_are_one.Goals as goal

pub returns : goal.returns
returns c = courses_are_one
