use Rattle.lmn_print_folding.proofs.PrintedExampleProofs.{link_is_printed}
use Rattle.lmn_print_folding.proofs.examples.link_is_printed.Goals as goal

pub returns : goal.returns
returns c = link_is_printed
