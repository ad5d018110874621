use Rattle.lmn_adequacy_heaps.proofs.PartLaws.{ground_parts_stand_whole}
use Rattle.lmn_adequacy_heaps.proofs.ground_parts_stand_whole.Goals as goal

pub returns : goal.returns
returns c = ground_parts_stand_whole
