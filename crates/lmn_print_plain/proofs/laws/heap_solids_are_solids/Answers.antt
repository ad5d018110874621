use Rattle.lmn_print_plain.proofs.SolidShapes.{heap_solids_are_solids}
use Rattle.lmn_print_plain.proofs.laws.heap_solids_are_solids.Goals as goal

pub returns : goal.returns
returns c = heap_solids_are_solids
