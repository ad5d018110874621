use Rattle.lmn_guards.proofs.ValueLemmas.{product_is}
use Rattle.lmn_machine.proofs.integers.product.Goals as goal

pub returns : goal.returns
returns c = product_is c.checked_mul.result c.args.m c.args.n c.ranges.m c.ranges.n c.checked_mul.ensures
