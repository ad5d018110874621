use Rattle.lmn_schedule_strategy.proofs.SmallMarks.{nothing_is_turned}
use Rattle.lmn_schedule_strategy.proofs.examples.nothing_is_turned.Goals as goal

pub returns : goal.returns
returns c = nothing_is_turned
