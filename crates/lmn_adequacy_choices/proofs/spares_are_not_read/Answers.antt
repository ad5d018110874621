use Rattle.lmn_adequacy_choices.proofs.Spares as spares
use Rattle.lmn_adequacy_choices.proofs.spares_are_not_read.Goals as goal

pub returns : goal.returns
returns c = spares.spares_are_not_read
