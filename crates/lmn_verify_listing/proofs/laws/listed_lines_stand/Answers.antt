use Rattle.lmn_verify_listing.proofs.Exclusion.{listed_lines_stand}
use Rattle.lmn_verify_listing.proofs.laws.listed_lines_stand.Goals as goal

pub returns : goal.returns
returns c = listed_lines_stand
