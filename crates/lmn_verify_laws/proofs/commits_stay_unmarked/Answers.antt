use Rattle.lmn_verify_laws.proofs.Unmarked.{commits_stay_unmarked}
use Rattle.lmn_verify_laws.proofs.commits_stay_unmarked.Goals as goal

pub returns : goal.returns
returns c = commits_stay_unmarked
