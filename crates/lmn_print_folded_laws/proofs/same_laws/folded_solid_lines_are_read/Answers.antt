use Rattle.lmn_print_folded_laws.proofs.ReadBack.{folded_solid_lines_are_read}
use Rattle.lmn_print_folded_laws.proofs.same_laws.folded_solid_lines_are_read.Goals as goal

pub returns : goal.returns
returns c = folded_solid_lines_are_read
