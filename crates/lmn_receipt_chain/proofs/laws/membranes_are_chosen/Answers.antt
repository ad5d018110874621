use Rattle.lmn_receipt_chain.proofs.SmallMembranes.{membrane_is_chosen, nothing_continues}
use Rattle.lmn_receipt_chain.proofs.laws.membranes_are_chosen.Goals as goal

pub returns-clause-chosen : goal.returns-clause-chosen
returns-clause-chosen c = membrane_is_chosen

pub returns-clause-nothing : goal.returns-clause-nothing
returns-clause-nothing c = nothing_continues
