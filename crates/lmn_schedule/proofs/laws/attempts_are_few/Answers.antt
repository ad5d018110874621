use Rattle.lmn_schedule_strategy.proofs.Counts.{counts_rules}
use Rattle.lmn_schedule.proofs.laws.attempts_are_few.Goals as goal

pub returns : goal.returns
returns c = λ h codes from old new counts f tree. counts_rules h codes from old new counts f tree
