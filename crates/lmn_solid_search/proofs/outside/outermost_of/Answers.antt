use Rattle.std.proofs.Common.{◌+◌, ◌-◌, length, arith}
use Rattle.lmn_solid_search.specs.Placing.{outermost_in}
use Rattle.lmn_solid_search.proofs.OutsideLemmas.{outer_more}
use Rattle.lmn_solid_search.proofs.outside.outermost_of.Goals as goal

pub loop-step-preserved : goal.loop-step-preserved
loop-step-preserved c = outer_more c.args.membranes.now (length c.args.membranes.now - c.loop-step.step) (length c.args.membranes.now - (c.loop-step.step + 1)) c.loop-step.outer c.inside_of-around.result (outermost_in c.args.membranes.now c.args.membrane)
    (let l = c.loop-step-test.true in omega (arith, l)) c.inside_of-around.ensures c.if-around-eq0.false c.loop-step.invariant
