use Rattle.lmn_machine_laws.proofs.Accepted.{sets_items}
use Rattle.lmn_machine_laws.proofs.accepted_sets_items.Goals as goal

pub returns : goal.returns
returns c = sets_items c.accepted_heads.ensures
