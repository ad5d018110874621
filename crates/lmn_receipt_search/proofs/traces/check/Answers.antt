use Rattle.lmn_receipt_search.proofs.Beginning.{followed_whole, refused_whole}
use Rattle.lmn_receipt_search.proofs.traces.check.Goals as goal

pub returns-in-Ok : goal.returns-in-Ok
returns-in-Ok c =
    followed_whole c.args.names.now c.args.plain.now c.args.trace.now c.new-lines.result.rest.now c.new-lines.ensures c.in-Ok.commits (rw c.in-Ok.is at c.check_lines.ensures.chain)

pub returns-in-Err : goal.returns-in-Err
returns-in-Err c =
    refused_whole c.args.names.now c.args.plain.now c.args.trace.now c.new-lines.result.rest.now c.new-lines.ensures c.in-Err.fault c.of_text.result c.of_text.ensures (rw c.in-Err.is at c.check_lines.ensures.wrong)
