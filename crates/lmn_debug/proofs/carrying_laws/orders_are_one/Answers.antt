use Rattle.lmn_debug.proofs.OneOutcome.{orders_are_one}
use Rattle.lmn_debug.proofs.carrying_laws.orders_are_one.Goals as goal

pub returns : goal.returns
returns c = orders_are_one
