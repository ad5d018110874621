use Rattle.lmn_app.proofs.OneExecution.{compiled_is_not_wrong, compiled_runs_as_run}
use Rattle.lmn_app.proofs.laws.compiled_runs_as_run.Goals as goal

pub returns : goal.returns
returns c = record { run = compiled_runs_as_run; refused = compiled_is_not_wrong c.accepted_can_be_listed.ensures c.compiled_are_listed.ensures.refused }
