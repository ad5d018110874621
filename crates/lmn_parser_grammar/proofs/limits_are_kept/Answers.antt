use Rattle.lmn_parser_grammar.proofs.Arguments.{arguments_within, brackets_within, operators_within}
use Rattle.lmn_parser_grammar.proofs.limits_are_kept.Goals as goal

pub returns : goal.returns
returns c = record { brackets = brackets_within; operators = operators_within; arguments = arguments_within }
