use Rattle.std.proofs.Common.{◌≡◌, drop}
use Rattle.lmn_ground_parts.specs.Walks.{is_in}
use Rattle.lmn_receipt_search.proofs.sizes.has.Given as goal

abbrev pub invariant-loop-other : goal.invariant-loop-other
invariant-loop-other l = is_in (drop l.other-index l.numbers) l.number ≡ is_in l.numbers l.number
