use Rattle.std.proofs.Common.{◌∙◌, ap, subst}
use Rattle.lmn_solid_settle.specs.Raw.{laid}
use Rattle.lmn_solid_firing.specs.Making.{Ends, fired_region, home_region, level_made}
use Rattle.lmn_solid_firing.proofs.firing.fire.Goals as goal

pub returns : goal.returns
returns c = λ left forms inner F.
    let flat = c.args.flat.now in
    let t = c.args.taken.now in
    let b = level_made flat t left c.args.body.now in
    let start = c.in_ok-start.ensures in record {
      membranes = c.in_ok-end.ensures.rows left forms inner F ∙ ap (λ k. laid 0 0 (fired_region flat t.home (home_region flat t left b k) 0 inner)) start;
      connectors = c.in_ok-add_connectors.ensures;
      bound = c.in_ok-short.ensures ∙ (subst (Ends flat t left c.args.body.now c.in_ok-start.start) c.in-Some.is (c.in_ok-end.ensures.end left) ∙ ap (λ k. b.after (b.own k)) start);
    }
