use Rattle.lmn_receipt_chain.proofs.SmallChains.{cut_short, two_solids}
use Rattle.lmn_receipt_chain.proofs.laws.chains_of_two.Goals as goal

pub returns-clause-two : goal.returns-clause-two
returns-clause-two c = two_solids

pub returns-clause-short : goal.returns-clause-short
returns-clause-short c = cut_short
