use Rattle.lmn_adequacy_choices.proofs.Spares as spares
use Rattle.lmn_adequacy_choices.proofs.marks_are_not_read.Goals as goal

pub returns : goal.returns
returns c = spares.marks_are_not_read
