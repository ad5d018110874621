use Rattle.lmn_flatten_plain.proofs.TextPlains.{one_text_plain, lines_read_back, solid_lines_read_back}
use Rattle.lmn_flatten_plain.proofs.laws.lines_read_back.Goals as goal

pub returns-clause-one : goal.returns-clause-one
returns-clause-one c = one_text_plain

pub returns-clause-back : goal.returns-clause-back
returns-clause-back c = lines_read_back

pub returns-clause-solid : goal.returns-clause-solid
returns-clause-solid c = solid_lines_read_back
