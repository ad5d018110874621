use Rattle.lmn_solid_bodies.proofs.SolidRests.{rests_in_solid}
use Rattle.lmn_solid_bodies.proofs.SolidWithin.{firing_leaves_solid, firing_leaves_atoms, copies_in_solid}
use Rattle.lmn_solid_bodies.proofs.firing_leaves_atoms.Goals as goal

pub returns : goal.returns
returns c = record { solid = firing_leaves_solid; atoms = firing_leaves_atoms; copies = copies_in_solid; rests = rests_in_solid }
