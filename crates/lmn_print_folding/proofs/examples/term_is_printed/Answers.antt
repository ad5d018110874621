use Rattle.lmn_print_folding.proofs.PrintedExampleProofs.{term_is_printed}
use Rattle.lmn_print_folding.proofs.examples.term_is_printed.Goals as goal

pub returns : goal.returns
returns c = term_is_printed
