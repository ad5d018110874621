use Rattle.lmn_guards.proofs.ValueLemmas.{by_zero_is, wrapped_rest_is, divisor_is}
use Rattle.lmn_machine.proofs.integers.remainder.Goals as goal

pub returns-then-n-eq0 : goal.returns-then-n-eq0
returns-then-n-eq0 c = by_zero_is c.args.m c.args.n c.ranges.n c.if-n-eq0.true

pub wrapping_rem-requires : goal.wrapping_rem-requires
wrapping_rem-requires c = divisor_is c.args.n c.ranges.n c.if-n-eq0.false

pub returns-else-n-eq0 : goal.returns-else-n-eq0
returns-else-n-eq0 c = wrapped_rest_is c.wrapping_rem.result c.args.m c.args.n c.ranges.m c.ranges.n c.if-n-eq0.false c.wrapping_rem.ensures
