use Rattle.lmn_flatten_plain.proofs.FewItems.{few_at_top}
use Rattle.lmn_flatten_plain.proofs.laws.tops_are_small.Goals as goal

pub returns : goal.returns
returns c = few_at_top
