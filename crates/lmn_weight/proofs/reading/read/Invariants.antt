use Rattle.std.proofs.Common.{◌-◌, length}
use Rattle.lmn_weight.proofs.LineLemmas.{Reached}
use Rattle.lmn_weight.proofs.reading.read.Given as goal

abbrev pub decreases-loop-at : goal.decreases-loop-at
decreases-loop-at l = length l.initial.weights - l.at

abbrev pub invariant-loop-at : goal.invariant-loop-at
invariant-loop-at l = Reached l.fn.names l.names l.weights l.at l.line l.told
