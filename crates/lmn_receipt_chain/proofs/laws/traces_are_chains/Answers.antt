use Rattle.lmn_receipt_chain.proofs.ChainLemmas as chains
use Rattle.lmn_receipt_chain.proofs.laws.traces_are_chains.Goals as goal

pub returns : goal.returns
returns c = chains.traces_are_chains
