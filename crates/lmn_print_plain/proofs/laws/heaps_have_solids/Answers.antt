use Rattle.lmn_print_plain.proofs.HeapSolids.{heaps_have_solids}
use Rattle.lmn_print_plain.proofs.laws.heaps_have_solids.Goals as goal

pub returns : goal.returns
returns c = heaps_have_solids
