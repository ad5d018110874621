use Rattle.lmn_app_runs.proofs.ExampleLines.{short_run_prints}
use Rattle.lmn_app_runs.proofs.short_run_prints.Goals as goal

pub returns : goal.returns
returns c = short_run_prints
