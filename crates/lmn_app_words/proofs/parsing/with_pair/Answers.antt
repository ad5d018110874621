use Rattle.std.proofs.lemmas.Result.{IfOk-at_ok}
use Rattle.lmn_app_words.specs.Parsing.{IsLineOfCommand, pair_line}
use Rattle.lmn_app_words.proofs.parsing.with_pair.Goals as goal

pub returns-in-Ok : goal.returns-in-Ok
returns-in-Ok c = λ app is.
    let line = IfOk-at_ok (λ line. IsLineOfCommand line app) c.in-Ok.is is in
    c.with_command.ensures app (pair_line c.args.name.now) line (c.with_argument-with_last.ensures _ c.word_line-with_first.ensures)
