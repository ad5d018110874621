use Rattle.lmn_instr_reading.proofs.NameOrder.{lists_in_order_are_one}
use Rattle.lmn_instr_reading.proofs.laws.lists_in_order_are_one.Goals as goal

pub returns : goal.returns
returns c = lists_in_order_are_one
