use Rattle.std.proofs.lemmas.Result.{IfOk-at_ok, IfOk-weaker}
use Rattle.lmn_app_words.specs.Parsing.{IsLineOfCommand}
use Rattle.lmn_app_words.proofs.LineLemmas.{argument_more}
use Rattle.lmn_app_words.proofs.parsing.with_argument.Goals as goal

pub returns-in-Ok : goal.returns-in-Ok
returns-in-Ok c = λ app is.
    let line = IfOk-at_ok (λ line. IsLineOfCommand line app) c.in-Ok.is is in
    IfOk-weaker c.arg.result _ _ (λ new adds. argument_more _ new _ _ _ adds line c.argument.ensures.rule c.argument.ensures.local) c.arg.ensures
