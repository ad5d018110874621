use Rattle.lmn_print_folding.proofs.MarkedExampleProofs.{child_is_no_first_item}
use Rattle.lmn_print_folding.proofs.items_examples.child_is_no_first_item.Goals as goal

pub returns : goal.returns
returns c = child_is_no_first_item
