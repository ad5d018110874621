use Rattle.lmn_app.proofs.OneSession.{session_or_refused}
use Rattle.lmn_app.proofs.laws.scripts_are_obeyed_or_refused.Goals as goal

pub returns-clause-either : goal.returns-clause-either
returns-clause-either c = session_or_refused c.accepted_texts.ensures c.scripts_are_decided.ensures.some

pub returns-clause-apart : goal.returns-clause-apart
returns-clause-apart c = λ program script refusal s wrong. let of = s.of in c.scripts_are_decided.ensures.either of.later script s.orders refusal s.are wrong

pub returns-clause-refusal : goal.returns-clause-refusal
returns-clause-refusal c = λ program script refusal other wrong different. c.scripts_are_decided.ensures.one script refusal other wrong different
