use Rattle.lmn_parser.proofs.OneReading.{one_reading}
use Rattle.lmn_parser.proofs.laws.texts_read_as_one_tree.Goals as goal

pub returns : goal.returns
returns c = one_reading
