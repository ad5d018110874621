use Rattle.lmn_adequacy.proofs.closed_plains_have_one_solid.Goals as goal
use Rattle.lmn_adequacy.proofs.PlainSolids.{solid_of_plain_is_one, solids_of_plains_exist}

pub returns : goal.returns
returns c = record { has = solids_of_plains_exist; one = solid_of_plain_is_one }
