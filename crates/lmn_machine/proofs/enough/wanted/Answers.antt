use Rattle.std.proofs.Common.{arith}
use Rattle.lmn_machine.proofs.Sufficing.{takes_nothing, takes_on, takes_whole}
use Rattle.lmn_machine.proofs.enough.wanted.Goals as goal

pub loop-i-init : goal.loop-i-init
loop-i-init c = record { few = omega arith; apart = takes_nothing c.args.code.now c.args.at c.args.want }

pub loop-i-preserved : goal.loop-i-preserved
loop-i-preserved c = record {
  few = (let a = c.loop-i.invariant.few in let b = c.more_at-count.ensures.few in omega (arith, a, b));
  apart = takes_on c.args.code.now c.args.at c.loop-i.i c.loop-i.count c.more_at-count.result c.args.want c.loop-i.auto.i c.loop-i.invariant.apart c.more_at-count.ensures.more;
}

pub returns : goal.returns
returns c = takes_whole c.args.code.now c.args.at c.loop-i.i c.loop-i.count c.args.want c.loop-i.invariant.apart
