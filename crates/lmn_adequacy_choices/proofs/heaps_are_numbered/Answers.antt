use Rattle.lmn_adequacy_choices.proofs.Renumbering as renumbering
use Rattle.lmn_adequacy_choices.proofs.heaps_are_numbered.Goals as goal

pub returns : goal.returns
returns c = renumbering.heaps_are_numbered c.numbering_is_one.ensures.exists
