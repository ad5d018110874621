use Rattle.lmn_adequacy_choices.proofs.Numbers.{numbered_alike}
use Rattle.lmn_adequacy_choices.proofs.membranes_are_numbered_alike.Goals as goal

pub returns : goal.returns
returns c = numbered_alike
