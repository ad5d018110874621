use Rattle.lmn_schedule_strategy.proofs.SmallMarks.{sleepers_are_passed}
use Rattle.lmn_schedule_strategy.proofs.examples.sleepers_are_passed.Goals as goal

pub returns : goal.returns
returns c = sleepers_are_passed
