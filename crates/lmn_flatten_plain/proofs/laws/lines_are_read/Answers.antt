use Rattle.lmn_flatten_plain.proofs.PrintedLines.{lines_are_read}
use Rattle.lmn_flatten_plain.proofs.SolidLines.{solid_lines_are_read}
use Rattle.lmn_flatten_plain.proofs.laws.lines_are_read.Goals as goal

pub returns-clause-level : goal.returns-clause-level
returns-clause-level c = lines_are_read

pub returns-clause-solid : goal.returns-clause-solid
returns-clause-solid c = solid_lines_are_read
