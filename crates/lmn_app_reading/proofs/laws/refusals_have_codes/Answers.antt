use Rattle.lmn_app_reading.proofs.CodeLemmas.{refusals_have_codes}
use Rattle.lmn_app_reading.proofs.laws.refusals_have_codes.Goals as goal

pub returns : goal.returns
returns c = refusals_have_codes
