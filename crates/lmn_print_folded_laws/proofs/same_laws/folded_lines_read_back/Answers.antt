use Rattle.lmn_print_folded_laws.proofs.ReadBack.{folded_lines_read_back}
use Rattle.lmn_print_folded_laws.proofs.same_laws.folded_lines_read_back.Goals as goal

pub returns : goal.returns
returns c = folded_lines_read_back
