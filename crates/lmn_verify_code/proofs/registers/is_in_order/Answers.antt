use Rattle.std.proofs.Common.{◌∙◌}
use Rattle.lmn_verify_code.proofs.VerifyingLemmas.{both_in_order, not_in_order}
use Rattle.lmn_verify_code.proofs.registers.is_in_order.Goals as goal

pub returns-in-Some : goal.returns-in-Some
returns-in-Some c =
    let some = c.in-Some.ensures.some in
    c.is_some.ensures ∙ both_in_order c.of_counts.result c.args.head.now c.args.body.now c.in-Some.counts c.in_order-in-Some.result c.of_counts.ensures some.0 some.1 c.in_order-in-Some.ensures.some c.in_order-in-Some.ensures.none

pub returns-in-None : goal.returns-in-None
returns-in-None c = not_in_order c.of_counts.result c.args.head.now c.args.body.now c.of_counts.ensures c.in-None.ensures.none
