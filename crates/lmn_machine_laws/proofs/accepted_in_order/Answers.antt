use Rattle.lmn_machine_laws.proofs.Accepted.{in_order}
use Rattle.lmn_machine_laws.proofs.accepted_in_order.Goals as goal

pub returns : goal.returns
returns c = in_order c.accepted_heads.ensures
