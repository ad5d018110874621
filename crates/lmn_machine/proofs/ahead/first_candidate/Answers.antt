use Rattle.std.proofs.Common.{arith}
use Rattle.lmn_machine.proofs.ahead.first_candidate.Goals as goal

pub returns-then-at-eq1-clause-fits : goal.returns-then-at-eq1-clause-fits
returns-then-at-eq1-clause-fits g c = record { functor = c.requires.functor; home = c.requires.home; further = omega arith; left = λ b s k t i. i }
