use Rattle.lmn_parser.proofs.Programs.{cut_read, cut_stopped, cut_unexpected}
use Rattle.lmn_parser.proofs.parsing.fault.Goals as goal

pub refused-requires-clause-refused : goal.refused-requires-clause-refused
refused-requires-clause-refused c =
    let p = c.requires.passing in
    cut_read c.args.tokens.now c.as_slice-all.result.now c.args.passing.at c.args.passing.code p.0 c.as_slice-all.ensures p.1 p.2 p.3 c.in-Ok.ensures.reads

pub refused-requires-then-passing-at-clause-refused : goal.refused-requires-then-passing-at-clause-refused
refused-requires-then-passing-at-clause-refused c =
    let p = c.requires.passing in
    cut_stopped c.args.tokens.now c.as_slice-all.result.now c.args.passing.at c.in-Err-At.at c.args.passing.code p.0 c.in-Err-At.field-0 c.as_slice-all.ensures c.in-Err-At.field-0-is p.1 p.2 p.3 c.in-Err-At.ensures.reads c.if-passing-at.true

pub refused-requires-in-Err-At-clause-refused : goal.refused-requires-in-Err-At-clause-refused
refused-requires-in-Err-At-clause-refused c =
    let p = c.requires.passing in
    cut_unexpected c.args.tokens.now c.as_slice-all.result.now c.args.passing.at c.in-Err-At.at p.0 c.in-Err-At.field-0 c.as_slice-all.ensures c.in-Err-At.field-0-is p.1 p.2 c.in-Err-At.ensures.reads c.if-passing-at.false
