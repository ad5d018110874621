use Rattle.lmn_verify_renaming.proofs.FiringCompared.{flat_rule_fires}
use Rattle.lmn_verify_renaming.proofs.flat_rule_fires.Goals as goal

pub returns : goal.returns
returns c = flat_rule_fires
