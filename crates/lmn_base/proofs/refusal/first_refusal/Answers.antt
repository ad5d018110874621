use Rattle.std.proofs.Common.{subst}
use Rattle.lmn_base.specs.Firsts.{AnswersBy}
use Rattle.lmn_base.proofs.RowLemmas.{refused_now, answers_later}
use Rattle.lmn_base.proofs.refusal.first_refusal.Goals as goal

pub returns-in-Err : goal.returns-in-Err
returns-in-Err c = λ rows more first later. refused_now rows more c.in-Err.refusal (subst (AnswersBy rows) c.in-Err.is first)

pub returns-in-Ok : goal.returns-in-Ok
returns-in-Ok c = λ rows more first later. answers_later rows more c.args.later (subst (AnswersBy rows) c.in-Ok.is first) later
