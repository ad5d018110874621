use Rattle.lmn_compile_head.proofs.AcceptedHeads.{accepted_heads}
use Rattle.lmn_compile_head.proofs.accepted_heads.Goals as goal

pub returns : goal.returns
returns c = accepted_heads
