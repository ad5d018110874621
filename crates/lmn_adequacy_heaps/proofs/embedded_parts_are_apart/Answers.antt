use Rattle.lmn_adequacy_heaps.proofs.EmbeddedParts.{embedded_parts_are_apart}
use Rattle.lmn_adequacy_heaps.proofs.embedded_parts_are_apart.Goals as goal

pub returns : goal.returns
returns c = embedded_parts_are_apart
