use Rattle.lmn_schedule_strategy.proofs.SmallMarks.{asleep_by_mark}
use Rattle.lmn_schedule_strategy.proofs.examples.asleep_by_mark.Goals as goal

pub returns : goal.returns
returns c = asleep_by_mark
