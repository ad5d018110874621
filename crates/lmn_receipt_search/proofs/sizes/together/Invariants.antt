use Rattle.std.proofs.Common.{◌≡◌, ◌+◌, drop, map}
use Rattle.lmn_receipt_search.specs.Items.{size_at, total}
use Rattle.lmn_receipt_search.proofs.sizes.together.Given as goal

abbrev pub invariant-loop-membrane : goal.invariant-loop-membrane
invariant-loop-membrane l = l.size + total (map (size_at l.sizes) (drop l.membrane-index l.membranes)) ≡ total (map (size_at l.sizes) l.membranes)
