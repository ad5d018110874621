use Rattle.lmn_verify_solids.proofs.Small.{idle_code_is_flat}
use Rattle.lmn_verify_solids.proofs.idle_code_is_flat.Goals as goal

pub returns : goal.returns
returns c = idle_code_is_flat
