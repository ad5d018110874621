use Rattle.std.proofs.Common.{◌++◌}
use Rattle.lmn_print_plain.proofs.DueLemmas.{Due}
use Rattle.lmn_io.specs.Gathering.{nothing_pending}
use Rattle.lmn_receipt_line.specs.Walking.{left_open, line_end, line_text, steps_left}
use Rattle.lmn_receipt_line.proofs.FrontLemmas.{state, untaken}
use Rattle.lmn_receipt_line.proofs.comparing.front.Given as goal

-- the line but for what is left was written
abbrev pub invariant-loop-walk : goal.invariant-loop-walk
invariant-loop-walk l =
    Due (line_text l.names l.table l.solid.root) (left_open l.names l.table l.walk.open.items ++ line_end l.names l.table l.solid.root) (state nothing_pending (untaken l.text)) (state l.buffer l.out)

abbrev pub decreases-loop-walk : goal.decreases-loop-walk
decreases-loop-walk l = steps_left l.names l.table l.walk.open.items
