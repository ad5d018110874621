use Rattle.lmn_congruence.proofs.translation.solids_of_plains_are_regions_of_tops.Goals as goal
use Rattle.lmn_congruence.proofs.SolidsOfPlains as laws

pub returns : goal.returns
returns c = laws.solids_of_plains
