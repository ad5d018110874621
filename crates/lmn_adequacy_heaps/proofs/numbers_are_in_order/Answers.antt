use Rattle.lmn_adequacy_heaps.proofs.Order.{numbers_ordered}
use Rattle.lmn_adequacy_heaps.proofs.numbers_are_in_order.Goals as goal

pub returns : goal.returns
returns c = numbers_ordered
