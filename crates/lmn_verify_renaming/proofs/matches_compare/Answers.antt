use Rattle.lmn_verify_renaming.proofs.FiringCompared.{matches_compare}
use Rattle.lmn_verify_renaming.proofs.matches_compare.Goals as goal

pub returns : goal.returns
returns c = matches_compare
