use Rattle.lmn_receipt_search.proofs.searching.PlainSearch.passed.Goals as goal

pub returns-then-self : goal.returns-then-self
returns-then-self c m is = (c.requires c.if-self.true, is)

pub returns-else-self : goal.returns-else-self
returns-else-self c m is = absurd (cc)
