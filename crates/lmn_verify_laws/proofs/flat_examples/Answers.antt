use Rattle.lmn_verify_laws.proofs.FlatRules.{flat_examples}
use Rattle.lmn_verify_laws.proofs.flat_examples.Goals as goal

pub returns : goal.returns
returns c = flat_examples
