use Rattle.std.proofs.Common.{◌≤◌, length, drop}
use Rattle.lmn_instr_reading.specs.Reading.{HasNoSlash}
use Rattle.lmn_instr_reading.proofs.reading.last_slash.Given as goal

abbrev pub decreases-loop-at : goal.decreases-loop-at
decreases-loop-at l = l.at

abbrev pub invariant-loop-at : goal.invariant-loop-at
invariant-loop-at l = (l.at ≤ length l.text) × HasNoSlash (drop l.at l.text)
