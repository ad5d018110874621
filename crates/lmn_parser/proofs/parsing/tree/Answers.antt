use Rattle.lmn_parser.proofs.Programs.{has_token, stops_there, stops_unexpected, whole_derived, whole_tree}
use Rattle.lmn_parser.proofs.parsing.tree.Goals as goal

pub refused-requires-clause-place : goal.refused-requires-clause-place
refused-requires-clause-place c =
    let s = stops_there c.args.tokens.now c.as_slice.result.now c.in-Err-At.field-0 c.in-Err-At.at c.as_slice.ensures c.in-Err-At.field-0-is c.in-Err-At.ensures.reads in
    has_token c.args.tokens.now c.in-Err-At.at c.requires.ends s.1

pub refused-requires-clause-refused : goal.refused-requires-clause-refused
refused-requires-clause-refused c =
    let s = stops_there c.args.tokens.now c.as_slice.result.now c.in-Err-At.field-0 c.in-Err-At.at c.as_slice.ensures c.in-Err-At.field-0-is c.in-Err-At.ensures.reads in
    stops_unexpected c.args.tokens.now c.in-Err-At.at c.requires.ends c.requires.within s

pub returns-in-Ok-clause-derived : goal.returns-in-Ok-clause-derived
returns-in-Ok-clause-derived c = whole_derived c.args.tokens.now c.as_slice.result.now c.as_slice.ensures c.requires.ends c.in-Ok.ensures.reads

pub returns-in-Ok-clause-tree : goal.returns-in-Ok-clause-tree
returns-in-Ok-clause-tree c = whole_tree c.args.tokens.now c.as_slice.result.now _ c.as_slice.ensures c.in-Ok.ensures.tree
