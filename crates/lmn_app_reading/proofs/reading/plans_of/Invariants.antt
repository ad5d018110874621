use Rattle.std.proofs.Common.{take}
use Rattle.lmn_app_reading.proofs.Rules.{SoFar}
use Rattle.lmn_app_reading.proofs.reading.plans_of.Given as goal

abbrev pub invariant-loop-number : goal.invariant-loop-number
invariant-loop-number l = SoFar l.plain.rules (take l.number l.plain.rules) l.plans
