use Rattle.lmn_verify_laws.proofs.Linking.{verified_is_rule}
use Rattle.lmn_verify_laws.proofs.verified_is_rule.Goals as goal

pub returns : goal.returns
returns c = verified_is_rule
