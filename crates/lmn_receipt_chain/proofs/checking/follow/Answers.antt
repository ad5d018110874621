use Rattle.lmn_receipt_chain.proofs.ReadLemmas.{whole_wrong}
use Rattle.lmn_receipt_chain.proofs.checking.follow.Goals as goal

pub returns-in-Err : goal.returns-in-Err
returns-in-Err g c =
    whole_wrong (g.N.NextSolids.region c.args.solids.now c.args.first) c.args.trace.now c.new-lines.result.rest.now c.new-lines.ensures c.in-Err.fault c.of_text.result c.of_text.ensures
    (rw c.in-Err.is at c.follow_lines.ensures.told)
