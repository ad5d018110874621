use Rattle.lmn_verify_solids.proofs.HeadsAlike.{first_back, first_there, succeeds_back, succeeds_there}
use Rattle.lmn_verify_solids.proofs.heads_are_alike.Goals as goal

pub returns : goal.returns
returns c = λ h code m r. ((succeeds_there h code m r, succeeds_back h code m r), (first_there h code m r, first_back h code m r))
