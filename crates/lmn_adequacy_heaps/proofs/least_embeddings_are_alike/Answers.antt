use Rattle.lmn_adequacy_heaps.proofs.WholeRules.{least_alike}
use Rattle.lmn_adequacy_heaps.proofs.least_embeddings_are_alike.Goals as goal

pub returns : goal.returns
returns c = least_alike
