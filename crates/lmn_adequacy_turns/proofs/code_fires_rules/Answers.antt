use Rattle.lmn_adequacy_turns.proofs.Laws.{code_fires}
use Rattle.lmn_adequacy_turns.proofs.code_fires_rules.Goals as goal

pub returns : goal.returns
returns c = code_fires
