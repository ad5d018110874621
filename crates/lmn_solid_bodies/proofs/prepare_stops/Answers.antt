use Rattle.lmn_solid_bodies.proofs.Stops.{prepare_stops}
use Rattle.lmn_solid_bodies.proofs.prepare_stops.Goals as goal

pub returns : goal.returns
returns c = prepare_stops
