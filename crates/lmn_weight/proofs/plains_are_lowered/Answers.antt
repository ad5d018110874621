use Rattle.lmn_weight.proofs.Bounded.{lowered_plains}
use Rattle.lmn_weight.proofs.plains_are_lowered.Goals as goal

pub returns : goal.returns
returns c = lowered_plains
