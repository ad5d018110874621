use Rattle.lmn_receipt_chain.proofs.ReadLemmas.{printable_have_one_feed}
use Rattle.lmn_receipt_chain.proofs.laws.lines_have_one_feed.Goals as goal

pub returns : goal.returns
returns c = printable_have_one_feed
