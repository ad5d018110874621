use Rattle.lmn_adequacy_heaps.proofs.OnePart.{unary_parts_alike}
use Rattle.lmn_adequacy_heaps.proofs.unary_parts_are_alike.Goals as goal

pub returns : goal.returns
returns c = unary_parts_alike
