use Rattle.lmn_solid_bodies.proofs.Numbering.{links_have_numbers}
use Rattle.lmn_solid_bodies.proofs.links_have_numbers.Goals as goal

pub returns : goal.returns
returns c = links_have_numbers
