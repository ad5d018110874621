use Rattle.lmn_schedule_sleep.proofs.SmallHeaps as small
use Rattle.lmn_schedule_sleep.proofs.outer_is_touched.Goals as goal

pub returns : goal.returns
returns c = small.outer_is_touched
