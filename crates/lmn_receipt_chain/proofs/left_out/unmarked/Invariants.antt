use Rattle.std.proofs.Common.{◌≡◌, length}
use Rattle.lmn_receipt_chain.proofs.left_out.unmarked.Given as goal

abbrev pub invariant-loop : goal.invariant-loop
invariant-loop l = length l.marks.items ≡ l.counter
