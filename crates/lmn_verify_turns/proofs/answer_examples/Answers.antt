use Rattle.lmn_verify_turns.proofs.Small.{answer_examples}
use Rattle.lmn_verify_turns.proofs.answer_examples.Goals as goal

pub returns : goal.returns
returns c = answer_examples c.turn_examples.ensures
