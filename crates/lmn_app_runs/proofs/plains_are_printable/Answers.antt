use Rattle.lmn_app_runs.proofs.Printable.{plains_are_printable}
use Rattle.lmn_app_runs.proofs.plains_are_printable.Goals as goal

pub returns : goal.returns
returns c = plains_are_printable
