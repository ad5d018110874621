use Rattle.lmn_machine.proofs.EmptyExamples.{empty_head_is_there}
use Rattle.lmn_machine.proofs.examples.empty_head_is_there.Goals as goal

pub returns : goal.returns
returns c = empty_head_is_there
