use Rattle.lmn_verify_listing.proofs.Exclusion.{wrong_line_is_one}
use Rattle.lmn_verify_listing.proofs.laws.wrong_line_is_one.Goals as goal

pub returns : goal.returns
returns c = wrong_line_is_one
