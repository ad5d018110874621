use Rattle.lmn_app.proofs.SmallCalls.{quote_is_refused, quote_is_told_refused}
use Rattle.lmn_app.proofs.laws.quote_is_refused.Goals as goal

pub returns-clause-refused : goal.returns-clause-refused
returns-clause-refused c = quote_is_refused

pub returns-clause-told : goal.returns-clause-told
returns-clause-told c = quote_is_told_refused
