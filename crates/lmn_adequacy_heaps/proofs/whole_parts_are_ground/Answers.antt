use Rattle.lmn_adequacy_heaps.proofs.PartLaws.{whole_parts_are_ground}
use Rattle.lmn_adequacy_heaps.proofs.whole_parts_are_ground.Goals as goal

pub returns : goal.returns
returns c = whole_parts_are_ground
