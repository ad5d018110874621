use Rattle.lmn_verify_turns.proofs.Small as small
use Rattle.lmn_verify_turns.proofs.first_examples.Goals as goal

pub returns : goal.returns
returns c = small.first_examples
