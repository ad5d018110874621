use Rattle.lmn_debug.proofs.OneOutcome.{orders_stay_in_trace}
use Rattle.lmn_debug.proofs.carrying_laws.orders_stay_in_trace.Goals as goal

pub returns : goal.returns
returns c = orders_stay_in_trace
