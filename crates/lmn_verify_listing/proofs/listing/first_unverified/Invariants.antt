use Rattle.lmn_verify_listing.proofs.CodeLemmas.{AreVerified}
use Rattle.lmn_verify_listing.proofs.listing.first_unverified.Given as goal

abbrev pub invariant-loop-code : goal.invariant-loop-code
invariant-loop-code l = AreVerified l.rules l.codes l.code-index l.line
