use Rattle.std.proofs.Common.{◌∙◌, subst}
use Rattle.std.specs.Prelude.{IfOk}
use Rattle.lmn_receipt_chain.specs.Steps.{IsStep}
use Rattle.lmn_receipt_chain.proofs.WindowLemmas.{found_ahead}
use Rattle.lmn_receipt_chain.proofs.ahead.step_ahead.Goals as goal

pub take_step-requires-clause-own : goal.take_step-requires-clause-own
take_step-requires-clause-own g c = c.met.ensures ∙ c.requires.own

pub returns-clause-window : goal.returns-clause-window
returns-clause-window g c =
    let region = g.N.NextSolids.region c.args.solids.now in
    let fits = g.N.NextSolids.fits c.args.solids.now in
    subst (λ w. IfOk c.take_step.result (IsStep region fits (region c.args.solid.now) w c.args.commits)) c.ahead.ensures.is c.take_step.ensures

pub returns-clause-rest : goal.returns-clause-rest
returns-clause-rest g c =
    let region = g.N.NextSolids.region c.args.solids.now in
    let fits = g.N.NextSolids.fits c.args.solids.now in
    found_ahead region fits (region c.args.solid.now) g.T.TraceLines.cuts c.requires.feeds (g.T.TraceLines.is_rest c.args.lines.now) c.ahead.result.now c.args.commits c.ahead.ensures.window c.ahead.ensures.some c.take_step.result c.take_step.ensures
