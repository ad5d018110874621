use Rattle.lmn_print_folding.proofs.PrintedExampleProofs.{no_term_is_printed}
use Rattle.lmn_print_folding.proofs.examples.no_term_is_printed.Goals as goal

pub returns : goal.returns
returns c = no_term_is_printed
