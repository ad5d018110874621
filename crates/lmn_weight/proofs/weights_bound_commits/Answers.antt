use Rattle.lmn_weight.proofs.Bounded.{weights_bound}
use Rattle.lmn_weight.proofs.weights_bound_commits.Goals as goal

pub returns : goal.returns
returns c = weights_bound
