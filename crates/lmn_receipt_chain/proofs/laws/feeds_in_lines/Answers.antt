use Rattle.lmn_receipt_chain.proofs.SmallChains as small
use Rattle.lmn_receipt_chain.proofs.laws.feeds_in_lines.Goals as goal

pub returns-clause-one : goal.returns-clause-one
returns-clause-one c = small.one_feed

pub returns-clause-two : goal.returns-clause-two
returns-clause-two c = small.two_feeds
