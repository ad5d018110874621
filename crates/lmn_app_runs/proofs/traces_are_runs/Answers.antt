use Rattle.lmn_app_runs.proofs.TraceRuns.{traces_are_runs}
use Rattle.lmn_app_runs.proofs.traces_are_runs.Goals as goal

pub returns : goal.returns
returns c = traces_are_runs
