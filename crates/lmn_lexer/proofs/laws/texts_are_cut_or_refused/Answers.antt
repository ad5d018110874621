use Rattle.lmn_lexer.proofs.CutOrRefused.{cut_or_refused}
use Rattle.lmn_lexer.proofs.laws.texts_are_cut_or_refused.Goals as goal

pub returns : goal.returns
returns c = cut_or_refused
