use Rattle.std.proofs.Common.{◌+◌, ◌≤◌, drop}
use Rattle.lmn_receipt_search.specs.Items.{left_size, size_at}
use Rattle.lmn_receipt_search.proofs.sizes.membranes_left.Given as goal

abbrev pub invariant-loop-membrane : goal.invariant-loop-membrane
invariant-loop-membrane l = l.count + left_size (size_at l.sizes) l.taken (drop l.membrane-index l.membranes) ≤ left_size (size_at l.sizes) l.taken l.membranes
