use Rattle.std.proofs.Common.{◌-◌, length}
use Rattle.lmn_instr_reading.proofs.QuotedLemmas.{Undoubled}
use Rattle.lmn_instr_reading.proofs.reading.undoubled.Given as goal

abbrev pub decreases-loop-at : goal.decreases-loop-at
decreases-loop-at l = length l.initial.inside - l.at

abbrev pub invariant-loop-at : goal.invariant-loop-at
invariant-loop-at l = Undoubled l.inside l.at l.name.items
