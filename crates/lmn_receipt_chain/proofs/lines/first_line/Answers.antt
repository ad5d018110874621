use Rattle.lmn_receipt_chain.proofs.FirstLines.{is_first}
use Rattle.lmn_receipt_chain.proofs.lines.first_line.Goals as goal

pub returns : goal.returns
returns c = is_first c.args.text.now c.line_length.result c.line_length.ensures.line
