use Rattle.lmn_schedule.proofs.Counted.{rules_are_counted}
use Rattle.lmn_schedule.proofs.laws.rules_are_counted.Goals as goal

pub returns : goal.returns
returns c = rules_are_counted
