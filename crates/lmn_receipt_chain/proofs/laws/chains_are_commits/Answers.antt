use Rattle.lmn_receipt_chain.proofs.ChainLemmas as chains
use Rattle.lmn_receipt_chain.proofs.laws.chains_are_commits.Goals as goal

pub returns-clause-each : goal.returns-clause-each
returns-clause-each c = chains.continues_by_commit

pub returns-clause-all : goal.returns-clause-all
returns-clause-all c = chains.chains_are_commits
