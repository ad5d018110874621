use Rattle.lmn_print_folded_laws.proofs.SameLines.{folded_lines_are_same}
use Rattle.lmn_print_folded_laws.proofs.same_laws.folded_lines_are_same.Goals as goal

pub returns : goal.returns
returns c = folded_lines_are_same
