use Rattle.lmn_reduction.proofs.Plains as plains
use Rattle.lmn_reduction.proofs.plain_settles_to_its_solid.Goals as goal

pub returns : goal.returns
returns c = plains.plain_settles
