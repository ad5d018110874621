use Rattle.lmn_verify_solids.proofs.Small.{graph_examples}
use Rattle.lmn_verify_solids.proofs.graph_examples.Goals as goal

pub returns : goal.returns
returns c = graph_examples
