use Rattle.lmn_app_runs.proofs.TraceLines.{traces_have_lines}
use Rattle.lmn_app_runs.proofs.traces_have_lines.Goals as goal

pub returns : goal.returns
returns c = traces_have_lines
