use Rattle.lmn_verify_laws.proofs.Heads.{verified_heads_lie}
use Rattle.lmn_verify_laws.proofs.verified_heads_lie.Goals as goal

pub returns : goal.returns
returns c = verified_heads_lie
