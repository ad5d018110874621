use Rattle.lmn_adequacy_heaps.proofs.PartsApart.{parts_are_apart}
use Rattle.lmn_adequacy_heaps.proofs.parts_are_apart.Goals as goal

pub returns : goal.returns
returns c = parts_are_apart
