use Rattle.lmn_print_folding.proofs.MarkedExampleProofs.{later_item_is_marked}
use Rattle.lmn_print_folding.proofs.items_examples.later_item_is_marked.Goals as goal

pub returns : goal.returns
returns c = later_item_is_marked
