use Rattle.lmn_parser.proofs.OneReading.{cut_ends}
use Rattle.lmn_parser.proofs.laws.texts_end_with_end.Goals as goal

pub returns : goal.returns
returns c = cut_ends
