use Rattle.std.proofs.Common.{◌≡◌, length}
use Rattle.lmn_receipt_search.proofs.sizes.zeros.Given as goal

abbrev pub invariant-loop : goal.invariant-loop
invariant-loop l = length l.of.items ≡ l.counter
