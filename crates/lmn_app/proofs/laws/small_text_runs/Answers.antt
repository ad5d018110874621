use Rattle.lmn_app.proofs.SmallRuns.{small_text_runs}
use Rattle.lmn_app.proofs.laws.small_text_runs.Goals as goal

pub returns : goal.returns
returns c = small_text_runs c.short_run_prints.ensures
