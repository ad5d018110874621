use Rattle.lmn_parser.proofs.OneReading.{cut_ends}
use Rattle.lmn_parser.specs.Syntax.{clauses_of_tree}
use Rattle.lmn_app_reading.proofs.Readings.{names_with_each, none_by_tokens, plain_read, tokens_refused}
use Rattle.lmn_app_reading.proofs.reading.plain_of_tokens.Goals as goal

pub parse-requires : goal.parse-requires
parse-requires c = cut_ends c.args.text.now c.args.tokens.now c.requires.cut

pub returns-in-Err-clause-names : goal.returns-in-Err-clause-names
returns-in-Err-clause-names c = none_by_tokens c.args.text.now c.args.names.now _ c.args.tokens.now c.in-Err.fault c.requires.cut c.in-Err.ensures.refused

pub returns-in-Err-clause-reads : goal.returns-in-Err-clause-reads
returns-in-Err-clause-reads c = tokens_refused c.args.text.now _ c.args.tokens.now c.in-Err.fault c.requires.right c.requires.cut c.in-Err.ensures.refused

pub returns-in-Ok-clause-names : goal.returns-in-Ok-clause-names
returns-in-Ok-clause-names c =
    names_with_each c.args.text.now c.args.names.now c.flatten.new.names c.args.tokens.now (clauses_of_tree c.in-Ok.tree) c.flatten.result
    (record { cut = c.requires.cut; is_tree = c.in-Ok.ensures.tree }) c.flatten.ensures.names

pub returns-in-Ok-clause-reads : goal.returns-in-Ok-clause-reads
returns-in-Ok-clause-reads c =
    plain_read c.args.text.now c.flatten.new.names c.args.tokens.now (clauses_of_tree c.in-Ok.tree) c.flatten.result c.requires.right
    (record { cut = c.requires.cut; is_tree = c.in-Ok.ensures.tree }) c.in-Ok.ensures.within c.flatten.ensures.plain
