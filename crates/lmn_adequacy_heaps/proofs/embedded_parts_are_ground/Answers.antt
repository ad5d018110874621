use Rattle.lmn_adequacy_heaps.proofs.EmbeddedParts.{embedded_parts_are_ground}
use Rattle.lmn_adequacy_heaps.proofs.embedded_parts_are_ground.Goals as goal

pub returns : goal.returns
returns c = embedded_parts_are_ground
