-- The answer of a run that stopped tells why it did.
use Rattle.std.proofs.Common.{◌≡◌}
use Rattle.lmn_app_drive.specs.declared.driving.RunEnd.TheVariants.{Failed}
use Rattle.lmn_app_runs.specs.declared.stop.Stop.{Stop}
use Rattle.lmn_app_runs.specs.declared.stop.Stop.TheVariants as stop
use Rattle.lmn_app_drive.specs.Driving.{stop_end}

-- it is none of a sink that failed
pub stop_no_failure : (why : Stop) → stop_end why ≡ Failed → ⊥
stop_no_failure stop.Irreducible e = cc e
stop_no_failure stop.Budget e = cc e
stop_no_failure stop.Full e = cc e
stop_no_failure stop.NoMemory e = cc e
