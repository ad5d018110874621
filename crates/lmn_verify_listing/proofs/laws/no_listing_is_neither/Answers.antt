use Rattle.lmn_verify_listing.proofs.NeitherListed.{no_listing_is_neither}
use Rattle.lmn_verify_listing.proofs.laws.no_listing_is_neither.Goals as goal

pub returns : goal.returns
returns c = no_listing_is_neither
