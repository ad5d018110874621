use Rattle.lmn_verify_solids.proofs.Small.{turn_examples}
use Rattle.lmn_verify_solids.proofs.turn_examples.Goals as goal

pub returns : goal.returns
returns c = turn_examples
