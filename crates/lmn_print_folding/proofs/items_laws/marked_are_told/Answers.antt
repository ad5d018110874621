use Rattle.lmn_print_folding.proofs.Told.{marked_are_told}
use Rattle.lmn_print_folding.proofs.items_laws.marked_are_told.Goals as goal

pub returns : goal.returns
returns c = marked_are_told
