use Rattle.lmn_receipt_search.proofs.Asks as asks
use Rattle.lmn_receipt_search.proofs.laws.asked_rules.Goals as goal

pub returns : goal.returns
returns c = asks.asked_rules c.accepted_heads.ensures c.flats_have_rules.ensures
