use Rattle.lmn_parser_grammar.proofs.Ends.{derived_or_refused}
use Rattle.lmn_parser_grammar.proofs.derived_or_refused.Goals as goal

pub returns : goal.returns
returns c = derived_or_refused
