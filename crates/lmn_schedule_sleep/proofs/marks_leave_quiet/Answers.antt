use Rattle.lmn_schedule_sleep.proofs.SmallHeaps as small
use Rattle.lmn_schedule_sleep.proofs.marks_leave_quiet.Goals as goal

pub returns : goal.returns
returns c = small.marks_leave_quiet
