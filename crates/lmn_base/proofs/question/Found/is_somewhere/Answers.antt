use Rattle.std.proofs.Common.{◌∙◌}
use Rattle.lmn_base.proofs.RowLemmas.{somewhere_first}
use Rattle.lmn_base.proofs.question.Found.is_somewhere.Goals as goal

pub returns : goal.returns
returns c = λ ps found. c.is_some.ensures ∙ somewhere_first ps c.args.self.first found.first
