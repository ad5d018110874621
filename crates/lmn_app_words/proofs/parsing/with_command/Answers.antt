use Rattle.std.proofs.lemmas.Result.{IfOk-at_ok, IfOk-weaker}
use Rattle.lmn_app_words.specs.Parsing.{IsLineOfCommand}
use Rattle.lmn_app_words.proofs.LineLemmas.{command_more}
use Rattle.lmn_app_words.proofs.parsing.with_command.Goals as goal

pub returns-in-Ok : goal.returns-in-Ok
returns-in-Ok c = λ app sub is below.
    let found = IfOk-at_ok (λ command. IsLineOfCommand command sub) c.in-Ok.is below in
    IfOk-weaker c.subcommand.result _ _ (λ line adds. command_more _ _ line _ _ adds is found) c.subcommand.ensures
