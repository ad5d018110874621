use Rattle.std.proofs.Common.{◌≡◌, ◌≤◌, length, take}
use Rattle.lmn_receipt_line.proofs.comparison.common.Given as goal

abbrev pub invariant-loop-count : goal.invariant-loop-count
invariant-loop-count l = (l.count ≤ length l.fn.left) × (take l.count l.fn.left ≡ take l.count l.fn.right)
