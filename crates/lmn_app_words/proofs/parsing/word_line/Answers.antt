use Rattle.std.proofs.lemmas.Result.{IfOk-weaker}
use Rattle.lmn_app_words.proofs.LineLemmas.{argument_more}
use Rattle.lmn_app_words.proofs.parsing.word_line.Goals as goal

pub returns : goal.returns
returns c = IfOk-weaker c.arg.result _ _ (λ line adds. argument_more _ line _ _ _ adds (c.new.ensures.app, c.new.ensures.local) c.argument.ensures.rule c.argument.ensures.local) c.arg.ensures
