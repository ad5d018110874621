use Rattle.lmn_app.proofs.SmallSessions.{no_standing_step, small_session}
use Rattle.lmn_app.proofs.laws.small_text_is_debugged.Goals as goal

pub returns-clause-debugged : goal.returns-clause-debugged
returns-clause-debugged c = small_session

pub returns-clause-not_so : goal.returns-clause-not_so
returns-clause-not_so c = no_standing_step c.orders_are_once.ensures.once
