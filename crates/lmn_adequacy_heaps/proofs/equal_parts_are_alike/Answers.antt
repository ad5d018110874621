use Rattle.lmn_adequacy_heaps.proofs.PartLaws.{equal_parts_alike}
use Rattle.lmn_adequacy_heaps.proofs.equal_parts_are_alike.Goals as goal

pub returns : goal.returns
returns c = equal_parts_alike
