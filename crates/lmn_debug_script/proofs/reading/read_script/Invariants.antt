use Rattle.std.proofs.Common.{◌-◌, length}
use Rattle.lmn_debug_script.proofs.LineLemmas.{Reached}
use Rattle.lmn_debug_script.proofs.reading.read_script.Given as goal

abbrev pub decreases-loop-at : goal.decreases-loop-at
decreases-loop-at l = length l.initial.script - l.at

abbrev pub invariant-loop-at : goal.invariant-loop-at
invariant-loop-at l = Reached l.fn.names l.names l.script l.at l.line l.orders
