use Rattle.lmn_receipt_chain.proofs.SmallChains as small
use Rattle.lmn_receipt_chain.proofs.laws.small_chains.Goals as goal

pub returns-clause-chain : goal.returns-clause-chain
returns-clause-chain c = small.nothing_fires

pub returns-clause-word : goal.returns-clause-word
returns-clause-word c = small.wrong_word

pub returns-clause-end : goal.returns-clause-end
returns-clause-end c = small.no_end

pub returns-clause-more : goal.returns-clause-more
returns-clause-more c = small.more_behind

pub returns-clause-firing : goal.returns-clause-firing
returns-clause-firing c = small.no_firing

pub returns-clause-empty : goal.returns-clause-empty
returns-clause-empty c = small.empty
