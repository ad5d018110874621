use Rattle.lmn_lexer.proofs.OneCut.{one_cut}
use Rattle.lmn_lexer.proofs.laws.texts_are_cut_once.Goals as goal

pub returns : goal.returns
returns c = one_cut
