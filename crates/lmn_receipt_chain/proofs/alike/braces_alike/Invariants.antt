use Rattle.std.proofs.Common.{◌-◌, length}
use Rattle.lmn_receipt_chain.proofs.AlikeLemmas.{Compared}
use Rattle.lmn_receipt_chain.proofs.alike.braces_alike.Given as goal

abbrev pub invariant-loop-next : goal.invariant-loop-next
invariant-loop-next l = Compared l.brace l.left l.right l.left_at l.right_at l.count

abbrev pub decreases-loop-next : goal.decreases-loop-next
decreases-loop-next l = length l.left - l.left_at
