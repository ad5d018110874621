use Rattle.std.proofs.Common.{subst}
use Rattle.std.specs.Prelude.{IfOk, IfSome}
use Rattle.lmn_receipt_chain.specs.Steps.{BeginsWith}
use Rattle.lmn_receipt_chain.proofs.WindowLemmas.{none_ahead}
use Rattle.lmn_receipt_chain.proofs.ahead.line_ahead.Goals as goal

pub returns-clause-window : goal.returns-clause-window
returns-clause-window g c =
    let S = g.N.NextSolids.region c.args.solids.now c.args.solid.now in
    subst (λ w. IfOk c.front.result (λ found. IfSome found (BeginsWith S w))) c.ahead.ensures.is c.front.ensures.some

pub returns-clause-none : goal.returns-clause-none
returns-clause-none g c =
    let S = g.N.NextSolids.region c.args.solids.now c.args.solid.now in
    none_ahead S g.T.TraceLines.cuts c.requires.feeds (g.T.TraceLines.is_rest c.args.lines.now) c.ahead.result.now c.ahead.ensures.window c.ahead.ensures.some c.front.result c.front.ensures.none
