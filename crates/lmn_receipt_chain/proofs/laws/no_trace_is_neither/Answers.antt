use Rattle.lmn_receipt_chain.proofs.ChainOrWrong.{no_trace_is_neither}
use Rattle.lmn_receipt_chain.proofs.laws.no_trace_is_neither.Goals as goal

pub returns : goal.returns
returns c = no_trace_is_neither
