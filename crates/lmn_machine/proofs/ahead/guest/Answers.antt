use Rattle.std.proofs.Common.{arith}
use Rattle.lmn_machine.proofs.ahead.guest.Goals as goal

pub returns-in-Some-clause-guest : goal.returns-in-Some-clause-guest
returns-in-Some-clause-guest g c = c.in-Some.ensures.guest c.args.at (omega (arith, c.loop-i.auto.i))
