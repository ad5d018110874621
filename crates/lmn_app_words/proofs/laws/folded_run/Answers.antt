use Rattle.lmn_app_words.proofs.Examples.{folded_run_asked}
use Rattle.lmn_app_words.proofs.laws.folded_run.Goals as goal

pub returns : goal.returns
returns c = folded_run_asked
