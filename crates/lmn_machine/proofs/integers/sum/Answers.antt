use Rattle.lmn_guards.proofs.ValueLemmas.{sum_is}
use Rattle.lmn_machine.proofs.integers.sum.Goals as goal

pub returns : goal.returns
returns c = sum_is c.checked_add.result c.args.m c.args.n c.ranges.m c.ranges.n c.checked_add.ensures
