use Rattle.lmn_app.proofs.OneOutput.{one_output}
use Rattle.lmn_app.proofs.laws.executions_are_one.Goals as goal

pub returns : goal.returns
returns c = one_output (record { listed = c.accepted_can_be_listed.ensures; codes = c.listed_codes_are_one.ensures.one; names = c.listed_codes_are_one.ensures.names; runs = c.solid_runs_are_one.ensures })
