use Rattle.lmn_machine_commit.proofs.Roused.{rules_wake_touched}
use Rattle.lmn_machine_commit.proofs.laws.rules_wake_touched.Goals as goal

pub returns : goal.returns
returns c = rules_wake_touched
