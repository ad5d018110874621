use Rattle.lmn_contexts.proofs.WorkedRows.{closed_at_top, closed_copied, open_and_closed}
use Rattle.lmn_contexts.proofs.laws.closed_uses_that_offend.Goals as goal

pub returns-clause-at_top : goal.returns-clause-at_top
returns-clause-at_top c = closed_at_top

pub returns-clause-copied : goal.returns-clause-copied
returns-clause-copied c = closed_copied

pub returns-clause-open_and_closed : goal.returns-clause-open_and_closed
returns-clause-open_and_closed c = open_and_closed
