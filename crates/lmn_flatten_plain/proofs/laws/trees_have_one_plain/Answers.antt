use Rattle.lmn_flatten_plain.proofs.OnePlain.{one_plain}
use Rattle.lmn_flatten_plain.proofs.SomePlain.{some_plain}
use Rattle.lmn_flatten_plain.proofs.laws.trees_have_one_plain.Goals as goal

pub returns-clause-one : goal.returns-clause-one
returns-clause-one c = one_plain

pub returns-clause-some : goal.returns-clause-some
returns-clause-some c = some_plain
