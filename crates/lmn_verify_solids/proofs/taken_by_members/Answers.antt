use Rattle.lmn_verify_solids.proofs.Members.{taken_by_members}
use Rattle.lmn_verify_solids.proofs.taken_by_members.Goals as goal

pub returns : goal.returns
returns c = taken_by_members
