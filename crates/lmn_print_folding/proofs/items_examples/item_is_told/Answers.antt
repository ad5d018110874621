use Rattle.lmn_print_folding.proofs.ToldExampleProofs.{item_is_told}
use Rattle.lmn_print_folding.proofs.items_examples.item_is_told.Goals as goal

pub returns : goal.returns
returns c = item_is_told
