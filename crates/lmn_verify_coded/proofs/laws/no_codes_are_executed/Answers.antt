use Rattle.lmn_verify_coded.proofs.Small.{no_codes_are_executed}
use Rattle.lmn_verify_coded.proofs.laws.no_codes_are_executed.Goals as goal

pub returns : goal.returns
returns c = no_codes_are_executed
