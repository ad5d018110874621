use Rattle.lmn_verify_solids.proofs.EachTie.{idle_code_ties}
use Rattle.lmn_verify_solids.proofs.idle_code_ties.Goals as goal

pub returns : goal.returns
returns c = idle_code_ties
