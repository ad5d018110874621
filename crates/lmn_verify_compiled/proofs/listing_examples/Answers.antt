use Rattle.lmn_verify_compiled.proofs.ListingExamples.{listing_examples}
use Rattle.lmn_verify_compiled.proofs.listing_examples.Goals as goal

pub returns : goal.returns
returns c = listing_examples
