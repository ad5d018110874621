use Rattle.lmn_schedule_strategy.proofs.Rightly.{commits_sleep_rightly}
use Rattle.lmn_schedule_strategy.proofs.ready.commits_sleep_rightly.Goals as goal

pub returns : goal.returns
returns c = commits_sleep_rightly
