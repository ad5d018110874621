use Rattle.lmn_print_folding.proofs.PrintedItems.{items_are_walked}
use Rattle.lmn_print_folding.proofs.laws.items_are_walked.Goals as goal

pub returns : goal.returns
returns c = items_are_walked
