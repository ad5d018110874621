use Rattle.std.proofs.Common.{◌+◌, ◌≤◌, drop}
use Rattle.lmn_receipt_search.specs.Items.{left_size}
use Rattle.lmn_receipt_search.proofs.sizes.numbers_left.Given as goal

abbrev pub invariant-loop-number : goal.invariant-loop-number
invariant-loop-number l = l.count + left_size (λ a. 1) l.taken (drop l.number-index l.numbers) ≤ left_size (λ a. 1) l.taken l.numbers
