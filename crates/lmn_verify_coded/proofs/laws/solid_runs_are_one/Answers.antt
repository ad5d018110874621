use Rattle.lmn_verify_coded.proofs.OneSolid.{solid_runs_are_one}
use Rattle.lmn_verify_coded.proofs.laws.solid_runs_are_one.Goals as goal

pub returns : goal.returns
returns c = solid_runs_are_one c.one_next.ensures c.choices_are_one.ensures
