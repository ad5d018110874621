use Rattle.lmn_print_folded_laws.proofs.FoldedLines.{folded_lines_are_read}
use Rattle.lmn_print_folded_laws.proofs.laws.folded_lines_are_read.Goals as goal

pub returns : goal.returns
returns c = folded_lines_are_read
