use Rattle.lmn_solid_search.proofs.filled.holds_only_unless.Goals as goal

pub returns-else-has_context : goal.returns-else-has_context
returns-else-has_context c = ((λ z e. c.holds_only.ensures.0 z), λ f. c.holds_only.ensures.1 (f c.if-has_context.false))
