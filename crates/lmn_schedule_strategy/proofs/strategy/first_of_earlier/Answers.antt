use Rattle.std.proofs.Common.{arith}
use Rattle.lmn_schedule_strategy.proofs.strategy.first_of_earlier.Goals as goal

pub first_of_some-requires-clause-order : goal.first_of_some-requires-clause-order
first_of_some-requires-clause-order g c = c.requires.order

pub first_of_some-requires-clause-ordered : goal.first_of_some-requires-clause-ordered
first_of_some-requires-clause-ordered g c = omega arith
