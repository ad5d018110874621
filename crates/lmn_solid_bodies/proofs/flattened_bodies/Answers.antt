use Rattle.lmn_solid_bodies.proofs.Contexts.{flattened_are_placed}
use Rattle.lmn_solid_bodies.proofs.BodyLinks.{flattened_keep_links, flattened_are_made}
use Rattle.lmn_solid_bodies.proofs.flattened_bodies.Goals as goal

pub returns-clause-placed : goal.returns-clause-placed
returns-clause-placed c = flattened_are_placed

pub returns-clause-links : goal.returns-clause-links
returns-clause-links c = flattened_keep_links

pub returns-clause-made : goal.returns-clause-made
returns-clause-made c = flattened_are_made
