use Rattle.lmn_receipt_line.specs.Walking.{IsWithin, membrane_count, steps_left}
use Rattle.lmn_receipt_line.proofs.comparing.hint.Given as goal

-- numbers lie below the number of membranes
abbrev pub invariant-loop-walk : goal.invariant-loop-walk
invariant-loop-walk l = IsWithin (membrane_count l.solid.root) l.walk.open.items l.walk.entered

abbrev pub decreases-loop-walk : goal.decreases-loop-walk
decreases-loop-walk l = steps_left l.names l.table l.walk.open.items
