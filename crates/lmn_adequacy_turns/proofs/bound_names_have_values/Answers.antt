use Rattle.lmn_adequacy_turns.proofs.Bound.{bound_names}
use Rattle.lmn_adequacy_turns.proofs.bound_names_have_values.Goals as goal

pub returns : goal.returns
returns c = bound_names c.accepted_heads.ensures
