use Rattle.lmn_schedule.proofs.Counted.{counts_are_alike}
use Rattle.lmn_schedule.proofs.laws.counts_are_alike.Goals as goal

pub returns : goal.returns
returns c = counts_are_alike c.rules_are_asked_alike.ensures
