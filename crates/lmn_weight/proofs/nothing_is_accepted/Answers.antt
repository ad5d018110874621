use Rattle.lmn_weight.proofs.Nothing.{nothing_is_accepted, unplanned_is_not}
use Rattle.lmn_weight.proofs.nothing_is_accepted.Goals as goal

pub returns : goal.returns
returns c = record { some = nothing_is_accepted; unplanned = unplanned_is_not }
