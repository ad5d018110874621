use Rattle.lmn_compile_head.proofs.Laws.{code_of_least}
use Rattle.lmn_compile_head.proofs.first_success_is_least.Goals as goal

pub returns : goal.returns
returns c = code_of_least
