use Rattle.lmn_print_folded_laws.proofs.SameTexts.{folded_texts_are_same}
use Rattle.lmn_print_folded_laws.proofs.same_laws.folded_texts_are_same.Goals as goal

pub returns : goal.returns
returns c = folded_texts_are_same
