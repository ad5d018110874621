use Rattle.std.proofs.Common.{◌∙◌}
use Rattle.std.proofs.lemmas.Result.{IfOk-weaker}
use Rattle.lmn_receipt_chain.proofs.LeftOutLemmas.{are_left_out}
use Rattle.lmn_receipt_chain.proofs.left_out.left_out.Goals as goal

pub returns : goal.returns
returns g c s fits are own =
    IfOk-weaker c.ending_before.result _ _
    (λ out ends. are_left_out (g.N.NextSolids.region c.args.solids.now s) c.args.own.now c.args.text.now c.args.line.now c.as_slice.result.now c.in_ok-closed.closed out.items
    (c.as_slice.ensures.value ∙ c.in_ok-depths.ensures s fits are) own c.in_ok-closed.ensures c.requires.line ends)
    c.ending_before.ensures
