use Rattle.lmn_app.proofs.SmallCalls.{byte_is_told_written, file_is_fetched_once, no_words_are_answered, orders_count_so, trace_is_fetched_behind}
use Rattle.lmn_app.proofs.laws.small_calls.Goals as goal

pub returns-clause-answered : goal.returns-clause-answered
returns-clause-answered c = no_words_are_answered

pub returns-clause-fetched : goal.returns-clause-fetched
returns-clause-fetched c = file_is_fetched_once

pub returns-clause-behind : goal.returns-clause-behind
returns-clause-behind c = trace_is_fetched_behind

pub returns-clause-written : goal.returns-clause-written
returns-clause-written c = byte_is_told_written

pub returns-clause-counted : goal.returns-clause-counted
returns-clause-counted c = orders_count_so
