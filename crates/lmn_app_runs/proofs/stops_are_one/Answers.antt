use Rattle.lmn_app_runs.proofs.Stops.{some_stop, stop_is_one}
use Rattle.lmn_app_runs.proofs.stops_are_one.Goals as goal

pub returns-clause-one : goal.returns-clause-one
returns-clause-one c = stop_is_one

pub returns-clause-some : goal.returns-clause-some
returns-clause-some c = some_stop
