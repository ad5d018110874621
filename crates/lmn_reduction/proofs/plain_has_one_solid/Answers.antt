use Rattle.lmn_reduction.proofs.OneSolid as one_solid
use Rattle.lmn_reduction.proofs.plain_has_one_solid.Goals as goal

pub returns-clause-one : goal.returns-clause-one
returns-clause-one c = one_solid.solid_is_one
