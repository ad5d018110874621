use Rattle.lmn_guards.proofs.ValueLemmas.{by_zero_is, by_less_one_is, rest_of_is}
use Rattle.lmn_guards.proofs.evaluation.remainder.Goals as goal

pub returns-then-right-eq0 : goal.returns-then-right-eq0
returns-then-right-eq0 c = by_zero_is c.args.left c.args.right c.ranges.right c.if-right-eq0.true

pub returns-then-right-eqminus1 : goal.returns-then-right-eqminus1
returns-then-right-eqminus1 c = by_less_one_is c.args.left c.args.right c.ranges.left c.ranges.right c.if-right-eqminus1.true

pub returns-else-right-eqminus1 : goal.returns-else-right-eqminus1
returns-else-right-eqminus1 c = rest_of_is c.args.left c.args.right c.ranges.left c.ranges.right c.if-right-eq0.false
