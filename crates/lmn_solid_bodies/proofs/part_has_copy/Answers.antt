use Rattle.lmn_solid_bodies.proofs.ExampleCopy.{part_has_copy}
use Rattle.lmn_solid_bodies.proofs.part_has_copy.Goals as goal

pub returns : goal.returns
returns c = part_has_copy
