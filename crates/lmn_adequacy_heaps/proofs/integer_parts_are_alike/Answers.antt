use Rattle.lmn_adequacy_heaps.proofs.OnePart.{integer_parts_alike}
use Rattle.lmn_adequacy_heaps.proofs.integer_parts_are_alike.Goals as goal

pub returns : goal.returns
returns c = integer_parts_alike
