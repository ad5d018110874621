use Rattle.lmn_verify_laws.proofs.Integers.{integers_are_one}
use Rattle.lmn_verify_laws.proofs.integers_are_one.Goals as goal

pub returns : goal.returns
returns c = integers_are_one
