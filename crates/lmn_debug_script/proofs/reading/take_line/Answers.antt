use Rattle.lmn_debug_script.proofs.LineLemmas.{line_wrong}
use Rattle.lmn_debug_script.proofs.reading.take_line.Goals as goal

pub returns-in-None-clause-orders : goal.returns-in-None-clause-orders
returns-in-None-clause-orders c =
    line_wrong c.read_line.new.names c.args.line.now c.in_ok-order.field-0 c.is_empty.result c.in-None.is c.in_ok-order.ensures.order c.is_empty.ensures c.if-is_empty.false
