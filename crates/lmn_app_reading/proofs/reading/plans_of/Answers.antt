use Rattle.std.proofs.Common.{arith}
use Rattle.lmn_app_reading.proofs.Rules.{all_planned, nothing_so_far, plans_more, refused_at}
use Rattle.lmn_app_reading.proofs.reading.plans_of.Goals as goal

pub loop-number-init : goal.loop-number-init
loop-number-init c = nothing_so_far c.args.plain.now.rules c.new-plans.result c.new-plans.ensures

pub returns-in-Err : goal.returns-in-Err
returns-in-Err c =
    refused_at c.args.plain.now.rules c.args.plain.now.rules c.loop-number.plans c.loop-number.number c.in-Err.fault
    (omega (arith, c.loop-number-test.true, c.len-number-end.ensures)) c.loop-number.invariant c.in-Err.ensures

pub loop-number-preserved : goal.loop-number-preserved
loop-number-preserved c =
    plans_more c.args.plain.now.rules c.args.plain.now.rules c.loop-number.number c.loop-number.plans c.push.new.self c.in-Ok.plan
    (omega (arith, c.loop-number-test.true, c.len-number-end.ensures)) c.loop-number.invariant c.in-Ok.ensures c.in_ok-push-in-Ok.ensures.ok

pub returns : goal.returns
returns c = all_planned c.args.plain.now.rules c.args.plain.now.rules c.loop-number.number c.loop-number.plans (omega (arith, c.loop-number-test.false, c.len-number-end.ensures)) c.loop-number.invariant
