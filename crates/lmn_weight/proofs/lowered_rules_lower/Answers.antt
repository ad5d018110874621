use Rattle.lmn_weight.proofs.FiredWeight.{lowered_rules_lower}
use Rattle.lmn_weight.proofs.lowered_rules_lower.Goals as goal

pub returns : goal.returns
returns c = lowered_rules_lower
