use Rattle.lmn_verify_coded.proofs.Small.{no_rule_is_asked}
use Rattle.lmn_verify_coded.proofs.laws.no_rule_is_asked.Goals as goal

pub returns : goal.returns
returns c = no_rule_is_asked
