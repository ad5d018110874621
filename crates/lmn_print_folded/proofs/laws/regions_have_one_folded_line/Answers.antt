use Rattle.lmn_print_folded.proofs.FoldedLines.{some_folded_line, one_folded_line}
use Rattle.lmn_print_folded.proofs.laws.regions_have_one_folded_line.Goals as goal

pub returns-clause-some : goal.returns-clause-some
returns-clause-some c = some_folded_line

pub returns-clause-one : goal.returns-clause-one
returns-clause-one c = one_folded_line
