use Rattle.lmn_adequacy_choices.proofs.Choosers as choosers
use Rattle.lmn_adequacy_choices.proofs.turns_are_of_chooser.Goals as goal

pub returns : goal.returns
returns c = choosers.turns_are_of_chooser
