use Rattle.lmn_weight.proofs.OneTelling.{one_telling, one_wrong_line, told_not_wrong}
use Rattle.lmn_weight.proofs.weights_are_read_once.Goals as goal

pub returns : goal.returns
returns c = record { telling = one_telling; right = told_not_wrong; line = one_wrong_line }
