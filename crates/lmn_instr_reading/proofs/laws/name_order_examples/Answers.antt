use Rattle.lmn_instr_reading.proofs.NameOrder.{name_order_examples}
use Rattle.lmn_instr_reading.proofs.laws.name_order_examples.Goals as goal

pub returns : goal.returns
returns c = name_order_examples
