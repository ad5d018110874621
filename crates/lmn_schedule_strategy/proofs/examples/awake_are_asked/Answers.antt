use Rattle.lmn_schedule_strategy.proofs.SmallMarks.{awake_are_asked, turns_again}
use Rattle.lmn_schedule_strategy.proofs.examples.awake_are_asked.Goals as goal

pub returns-clause-before : goal.returns-clause-before
returns-clause-before c = awake_are_asked

pub returns-clause-behind : goal.returns-clause-behind
returns-clause-behind c = turns_again
