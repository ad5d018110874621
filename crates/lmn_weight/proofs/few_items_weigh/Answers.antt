use Rattle.lmn_weight.proofs.Sizes.{small_rules, small_top}
use Rattle.lmn_weight.proofs.few_items_weigh.Goals as goal

pub returns : goal.returns
returns c = record { tops = small_top; rules = small_rules }
