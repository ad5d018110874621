use Rattle.lmn_receipt_chain.proofs.OneChain as one
use Rattle.lmn_receipt_chain.proofs.laws.traces_are_one_of.Goals as goal

pub returns : goal.returns
returns c = one.traces_are_one_of
