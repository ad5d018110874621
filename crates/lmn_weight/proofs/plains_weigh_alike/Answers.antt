use Rattle.lmn_weight.proofs.AlikePlains.{alike_for_plains}
use Rattle.lmn_weight.proofs.plains_weigh_alike.Goals as goal

pub returns : goal.returns
returns c = alike_for_plains
