use Rattle.lmn_machine_commit.proofs.Rules.{bodies_can_be_committed}
use Rattle.lmn_machine_commit.proofs.laws.bodies_can_be_committed.Goals as goal

pub returns : goal.returns
returns c = bodies_can_be_committed
