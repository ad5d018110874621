use Rattle.lmn_verify_listing.proofs.ReachingLemmas.{read_at_is}
use Rattle.lmn_verify_listing.proofs.listing.read_at.Goals as goal

pub returns-in-Some-clause-some : goal.returns-in-Some-clause-some
returns-in-Some-clause-some c =
    let some = rw c.in-Some.is at c.in_ok-instr.ensures.some in
    read_at_is c.args.in_head c.read_line.new.names c.args.listing.now c.between.result.now c.args.at c.in-Some.instr c.line_end-end.result c.line_end-end.ensures c.between.ensures some
