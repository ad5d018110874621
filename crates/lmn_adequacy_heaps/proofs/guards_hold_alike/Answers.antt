use Rattle.lmn_adequacy_heaps.proofs.GroundGuards.{guards_alike}
use Rattle.lmn_adequacy_heaps.proofs.guards_hold_alike.Goals as goal

pub returns : goal.returns
returns c = guards_alike
