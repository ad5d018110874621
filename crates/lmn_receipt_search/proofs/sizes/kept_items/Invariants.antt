use Rattle.std.proofs.Common.{◌≡◌, ◌-◌, drop, map}
use Rattle.lmn_receipt_search.specs.Items.{kept_size, size_at, total}
use Rattle.lmn_receipt_search.proofs.sizes.kept_items.Given as goal

abbrev pub invariant-loop-membrane : goal.invariant-loop-membrane
invariant-loop-membrane l = l.kept - total (map (size_at l.sizes) (drop l.membrane-index l.membrane-items)) ≡ kept_size l.sizes l.taken
