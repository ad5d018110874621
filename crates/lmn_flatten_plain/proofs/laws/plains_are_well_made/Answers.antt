use Rattle.lmn_flatten_plain.proofs.PrintedLines.{plains_are_well_made}
use Rattle.lmn_flatten_plain.proofs.laws.plains_are_well_made.Goals as goal

pub returns : goal.returns
returns c = plains_are_well_made
