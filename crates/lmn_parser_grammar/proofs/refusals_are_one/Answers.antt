use Rattle.lmn_parser_grammar.proofs.Refusals.{one_refusal}
use Rattle.lmn_parser_grammar.proofs.refusals_are_one.Goals as goal

pub returns : goal.returns
returns c = one_refusal
