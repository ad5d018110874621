use Rattle.lmn_receipt_search.proofs.PathDepths.{AreDepths}
use Rattle.lmn_receipt_search.proofs.depths.depths_of.Given as goal

abbrev pub invariant-loop-membrane : goal.invariant-loop-membrane
invariant-loop-membrane l = AreDepths l.flat l.membrane l.depths.items
