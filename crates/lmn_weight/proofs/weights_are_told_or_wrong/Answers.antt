use Rattle.lmn_weight.proofs.SomeTelling.{told_or_wrong}
use Rattle.lmn_weight.proofs.weights_are_told_or_wrong.Goals as goal

pub returns : goal.returns
returns c = told_or_wrong
