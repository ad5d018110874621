use Rattle.std.proofs.Common.{◌≤◌, length, drop}
use Rattle.lmn_instr_reading.specs.Lines.{HasNoSpace}
use Rattle.lmn_instr_reading.proofs.lines_reading.last_space.Given as goal

abbrev pub decreases-loop-at : goal.decreases-loop-at
decreases-loop-at l = l.at

abbrev pub invariant-loop-at : goal.invariant-loop-at
invariant-loop-at l = (l.at ≤ length l.line) × HasNoSpace (drop l.at l.line)
