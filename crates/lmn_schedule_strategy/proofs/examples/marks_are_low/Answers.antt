use Rattle.lmn_schedule_strategy.proofs.SmallMarks.{marks_are_low}
use Rattle.lmn_schedule_strategy.proofs.examples.marks_are_low.Goals as goal

pub returns : goal.returns
returns c = marks_are_low
