use Rattle.lmn_ground.proofs.RestExampleProofs as examples
use Rattle.lmn_ground.proofs.examples.rests_stand.Goals as goal

pub returns : goal.returns
returns c = examples.rests_stand
