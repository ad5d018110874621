use Rattle.lmn_app.proofs.OneListing.{one_listing}
use Rattle.lmn_app.proofs.laws.listings_are_one.Goals as goal

pub returns : goal.returns
returns c = one_listing
