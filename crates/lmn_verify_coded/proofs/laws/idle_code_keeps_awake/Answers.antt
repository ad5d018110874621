use Rattle.lmn_verify_coded.proofs.Small.{idle_code_keeps_awake}
use Rattle.lmn_verify_coded.proofs.laws.idle_code_keeps_awake.Goals as goal

pub returns : goal.returns
returns c = idle_code_keeps_awake
