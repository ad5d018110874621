use Rattle.lmn_print_folded_laws.proofs.OneRegion.{one_folded_line_of}
use Rattle.lmn_print_folded_laws.proofs.same_laws.processes_have_one_folded_line.Goals as goal

pub returns : goal.returns
returns c = one_folded_line_of
