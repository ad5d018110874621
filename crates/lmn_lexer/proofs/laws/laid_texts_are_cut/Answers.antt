use Rattle.lmn_lexer.proofs.LaidTexts.{laid_texts_are_cut}
use Rattle.lmn_lexer.proofs.laws.laid_texts_are_cut.Goals as goal

pub returns : goal.returns
returns c = laid_texts_are_cut
