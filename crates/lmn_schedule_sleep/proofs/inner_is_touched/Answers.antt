use Rattle.lmn_schedule_sleep.proofs.SmallHeaps as small
use Rattle.lmn_schedule_sleep.proofs.inner_is_touched.Goals as goal

pub returns : goal.returns
returns c = small.inner_is_touched
