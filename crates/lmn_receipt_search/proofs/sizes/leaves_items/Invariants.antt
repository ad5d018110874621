use Rattle.std.proofs.Common.{◌+◌, ◌≤◌, drop}
use Rattle.lmn_receipt_search.specs.Items.{leaves_size}
use Rattle.lmn_receipt_search.proofs.sizes.leaves_items.Given as goal

abbrev pub invariant-loop-leaf : goal.invariant-loop-leaf
invariant-loop-leaf l = l.count + leaves_size l.taken (drop l.leaf-index l.leaves) ≤ leaves_size l.taken l.leaves
