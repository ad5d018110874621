use Rattle.lmn_schedule_strategy.proofs.SmallMarks.{asked_by_marks}
use Rattle.lmn_schedule_strategy.proofs.examples.asked_by_marks.Goals as goal

pub returns : goal.returns
returns c = asked_by_marks
