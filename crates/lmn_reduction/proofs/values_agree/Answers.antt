use Rattle.lmn_reduction.proofs.values_agree.Goals as goal
use Rattle.lmn_reduction.proofs.Values as values

pub returns : goal.returns
returns c = values.values_agree
