use Rattle.lmn_base.proofs.RowLemmas.{one_refusal, none_or_refused}
use Rattle.lmn_base.proofs.laws.refusals_are_one.Goals as goal

pub returns : goal.returns
returns c = record { one = one_refusal; none = none_or_refused }
