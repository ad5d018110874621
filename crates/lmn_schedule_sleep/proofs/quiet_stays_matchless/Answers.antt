use Rattle.lmn_schedule_sleep.proofs.Lasting as laws
use Rattle.lmn_schedule_sleep.proofs.quiet_stays_matchless.Goals as goal

pub returns : goal.returns
returns c = laws.quiet_stays_matchless
