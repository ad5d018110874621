use Rattle.std.proofs.Common.{◌≡◌, ◌+◌, map}
use Rattle.std.specs.List.{sum_by}
use Rattle.lmn_receipt_line.specs.Walking.{membrane_count}
use Rattle.lmn_receipt_line.proofs.counting.membranes.Given as goal

-- those that were counted and those that wait are all
abbrev pub invariant-loop-region : goal.invariant-loop-region
invariant-loop-region l = l.count + sum_by membrane_count (map (λ r. r.now) l.waiting.items) ≡ membrane_count l.solid.root

abbrev pub decreases-loop-region : goal.decreases-loop-region
decreases-loop-region l = sum_by membrane_count (map (λ r. r.now) l.waiting.items)
