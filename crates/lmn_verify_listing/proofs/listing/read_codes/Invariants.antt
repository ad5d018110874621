use Rattle.lmn_verify_listing.specs.Reaching.{AreReadCodes}
use Rattle.lmn_verify_listing.proofs.listing.read_codes.Given as goal

abbrev pub invariant-loop-number : goal.invariant-loop-number
invariant-loop-number l = AreReadCodes l.rules l.listing l.fn.names l.names l.number l.at l.line l.codes
