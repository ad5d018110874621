use Rattle.lmn_weight.proofs.Bounds.{weight_bounds}
use Rattle.lmn_weight.proofs.weight_bounds_commits.Goals as goal

pub returns : goal.returns
returns c = weight_bounds
