use Rattle.std.proofs.Common.{arith}
use Rattle.lmn_machine.proofs.ahead.further_other.Goals as goal

pub returns-then-is_hopeless-clause-fits : goal.returns-then-is_hopeless-clause-fits
returns-then-is_hopeless-clause-fits g c = record { functor = tt; home = tt; further = omega arith; left = λ k s t w i. absurd (c.is_hopeless.ensures c.if-is_hopeless.true k s t w) }
