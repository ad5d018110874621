use Rattle.std.proofs.lemmas.Result.{IfOk-at_ok}
use Rattle.clap.specs.Words.{new_app, with_rule}
use Rattle.lmn_app_words.specs.Parsing.{IsLineOfCommand, required_rule}
use Rattle.lmn_app_words.proofs.parsing.with_word.Goals as goal

pub returns-in-Ok : goal.returns-in-Ok
returns-in-Ok c = λ app is.
    let line = IfOk-at_ok (λ line. IsLineOfCommand line app) c.in-Ok.is is in
    c.with_command.ensures app (with_rule (new_app c.args.name.now) (required_rule c.args.word.now)) line c.word_line.ensures
