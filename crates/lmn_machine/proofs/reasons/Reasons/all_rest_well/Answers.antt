use Rattle.std.proofs.Common.{arith}
use Rattle.lmn_machine.proofs.Restings.{rest_first, rest_more, rest_all}
use Rattle.lmn_machine.proofs.reasons.Reasons.all_rest_well.Goals as goal

pub loop-i-init : goal.loop-i-init
loop-i-init c = rest_first c.args.self.now c.args.code.now

pub loop-i-preserved : goal.loop-i-preserved
loop-i-preserved c = rest_more c.args.self.now c.args.code.now c.loop-i.i c.at.result.now c.loop-i.invariant c.at.ensures (c.rests_well.ensures c.if-not-rests_well.false)

pub returns : goal.returns
returns c = λ u. rest_all c.args.self.now c.args.code.now c.loop-i.i c.loop-i.invariant (let past = c.loop-i-test.false in let end = c.len-i-end.ensures.len in omega (arith, past, end))
