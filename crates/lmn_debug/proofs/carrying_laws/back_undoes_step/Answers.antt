use Rattle.lmn_debug.proofs.OneOutcome.{back_undoes_step}
use Rattle.lmn_debug.proofs.carrying_laws.back_undoes_step.Goals as goal

pub returns : goal.returns
returns c = back_undoes_step
