use Rattle.lmn_compile_head.proofs.AcceptedHeads.{accepted_least}
use Rattle.lmn_compile_head.proofs.accepted_least.Goals as goal

pub returns : goal.returns
returns c = accepted_least
