use Rattle.lmn_solid_search.proofs.filled.holds_no_more.Goals as goal

pub returns-then-holds_only_unless : goal.returns-then-holds_only_unless
returns-then-holds_only_unless c = ((λ z. (c.holds_only_unless.ensures.0 c.if-holds_only_unless.true, c.has_no_rule_unless.ensures.0 z)), λ f. c.has_no_rule_unless.ensures.1 f.1)
