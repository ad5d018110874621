use Rattle.lmn_print_plain.proofs.HeapSolids.{one_solid}
use Rattle.lmn_print_plain.proofs.laws.one_solid.Goals as goal

pub returns : goal.returns
returns c = one_solid
