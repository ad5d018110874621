use Rattle.lmn_receipt_chain.proofs.SmallChains as small
use Rattle.lmn_receipt_chain.proofs.laws.found_beside_a_text.Goals as goal

pub returns-clause-nothing : goal.returns-clause-nothing
returns-clause-nothing c = small.nothing_is_next

pub returns-clause-reach : goal.returns-clause-reach
returns-clause-reach c = small.no_greater_reach

pub returns-clause-made : goal.returns-clause-made
returns-clause-made c = small.none_is_made
