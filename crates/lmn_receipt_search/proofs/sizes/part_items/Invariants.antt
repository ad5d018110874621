use Rattle.std.proofs.Common.{◌≡◌, drop}
use Rattle.lmn_receipt_search.specs.Items.{part_size}
use Rattle.lmn_receipt_search.proofs.sizes.part_items.Given as goal

abbrev pub invariant-loop-part : goal.invariant-loop-part
invariant-loop-part l = part_size (drop l.part-index l.parts) l.name ≡ part_size l.parts l.name
