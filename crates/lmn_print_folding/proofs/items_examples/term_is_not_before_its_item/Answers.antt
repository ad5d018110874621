use Rattle.lmn_print_folding.proofs.MarkedExampleProofs.{term_is_not_before_its_item}
use Rattle.lmn_print_folding.proofs.items_examples.term_is_not_before_its_item.Goals as goal

pub returns : goal.returns
returns c = term_is_not_before_its_item
