use Rattle.lmn_weight.proofs.KeptWeight.{congruence_keeps, settling_keeps}
use Rattle.lmn_weight.proofs.weight_is_kept.Goals as goal

pub returns-clause-congruence : goal.returns-clause-congruence
returns-clause-congruence c = congruence_keeps

pub returns-clause-settling : goal.returns-clause-settling
returns-clause-settling c = settling_keeps
