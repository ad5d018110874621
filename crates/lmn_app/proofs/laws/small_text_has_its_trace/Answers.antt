use Rattle.lmn_app.proofs.SmallRuns.{small_text_has_its_trace}
use Rattle.lmn_app.proofs.laws.small_text_has_its_trace.Goals as goal

pub returns : goal.returns
returns c = small_text_has_its_trace
