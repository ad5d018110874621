use Rattle.lmn_base.proofs.FirstLemmas.{found_in_both}
use Rattle.lmn_base.proofs.question.Found.and.Goals as goal

pub returns : goal.returns
returns c = λ ps qs a b. found_in_both ps qs c.args.self c.args.more _ _ c.earlier.ensures c.saturating_add.ensures a b
