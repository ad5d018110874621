use Rattle.lmn_guards.proofs.ValueLemmas.{difference_is}
use Rattle.lmn_machine.proofs.integers.difference.Goals as goal

pub returns : goal.returns
returns c = difference_is c.checked_sub.result c.args.m c.args.n c.ranges.m c.ranges.n c.checked_sub.ensures
