use Rattle.lmn_guards.proofs.ValueLemmas.{quotient_is}
use Rattle.lmn_machine.proofs.integers.quotient.Goals as goal

pub returns : goal.returns
returns c = quotient_is c.checked_div.result c.args.m c.args.n c.ranges.m c.ranges.n c.checked_div.ensures
