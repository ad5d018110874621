use Rattle.std.proofs.Common.{subst}
use Rattle.lmn_base.specs.Lists.{In}
use Rattle.lmn_solid_tables.specs.Flats.{heap_of}
use Rattle.lmn_solid_firing.proofs.Wholes.{atoms_there}
use Rattle.lmn_solid_firing.proofs.membranes.add_lone.Goals as goal

pub add_atoms-requires-clause-numbers : goal.add_atoms-requires-clause-numbers
add_atoms-requires-clause-numbers c = λ a i. atoms_there (heap_of c.args.flat.now) c.requires.valid c.args.membrane a (subst (In a) c.atoms.ensures i)
