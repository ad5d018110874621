use Rattle.std.proofs.Common.{refl, arith}
use Rattle.lmn_solid_tables.proofs.Steps.{pushed}
use Rattle.lmn_base.specs.declared.solid.Region.TheViews.{out-Region}
use Rattle.lmn_solid_tables.proofs.building.push_inner.Goals as goal

pub loop-i-preserved : goal.loop-i-preserved
loop-i-preserved c =
    pushed (λ e. (e.0.now, e.1)) c.loop-i.waiting.items c.push.new.self.items c.args.waiting.now.items (c.at.result, c.args.number) c.args.number c.loop-i.i (out-Region c.args.region.now).membranes c.at.result.now c.in_ok-push.ensures.items refl (omega (arith, c.loop-i-test.true)) c.at.ensures c.loop-i.invariant
