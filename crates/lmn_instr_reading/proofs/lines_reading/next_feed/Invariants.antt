use Rattle.std.proofs.Common.{◌≤◌, ◌-◌, length, drop, take}
use Rattle.lmn_instr_reading.specs.Lines.{IsOneLine}
use Rattle.lmn_instr_reading.proofs.lines_reading.next_feed.Given as goal

abbrev pub decreases-loop-end : goal.decreases-loop-end
decreases-loop-end l = length l.initial.text - l.end

abbrev pub invariant-loop-end : goal.invariant-loop-end
invariant-loop-end l = (l.at ≤ l.end) × (l.end ≤ length l.text) × IsOneLine (take (l.end - l.at) (drop l.at l.text))
