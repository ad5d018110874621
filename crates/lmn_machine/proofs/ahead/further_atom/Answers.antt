use Rattle.std.proofs.Common.{arith}
use Rattle.lmn_machine.proofs.ahead.further_atom.Goals as goal

pub returns-then-is_hopeless : goal.returns-then-is_hopeless
returns-then-is_hopeless g c = record { functor = tt; home = tt; further = omega arith; left = λ k s t w i. absurd (c.is_hopeless.ensures c.if-is_hopeless.true k s t w) }
