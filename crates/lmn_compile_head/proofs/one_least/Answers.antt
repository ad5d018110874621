use Rattle.lmn_compile_head.proofs.Only as only
use Rattle.lmn_compile_head.proofs.one_least.Goals as goal

pub returns : goal.returns
returns c = only.one_least
