use Rattle.std.proofs.Common.{refl, ◌∙◌}
use Rattle.lmn_solid_tables.proofs.Steps.{visit_round, smaller_round}
use Rattle.lmn_solid_tables.proofs.building.Listing.of.Goals as goal

pub loop-region-smaller : goal.loop-region-smaller
loop-region-smaller c =
    smaller_round (λ e. (e.0.now, e.1)) c.loop-region.waiting.items c.pop.new.self.items c.push_inner.new.waiting.items _ c.in-Some.region.now c.in-Some.parent c.len-number.result c.in-Some.ensures.items refl c.in_ok-push_inner.ensures

pub loop-region-preserved : goal.loop-region-preserved
loop-region-preserved c =
    visit_round (λ e. (e.0.now, e.1)) c.loop-region.waiting.items c.pop.new.self.items c.push_inner.new.waiting.items _ c.in-Some.region.now c.in-Some.parent c.len-number.result _ _ c.in-Some.ensures.items refl c.in_ok-push_inner.ensures (c.len-number.ensures ∙ c.loop-region.listing.membranes.ok.0) c.in_ok-add.ensures ∙ c.loop-region.invariant
