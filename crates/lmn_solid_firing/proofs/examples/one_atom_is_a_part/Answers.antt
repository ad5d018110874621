use Rattle.lmn_solid_firing.proofs.Shown.{more_atoms, one_atom, other_link}
use Rattle.lmn_solid_firing.proofs.examples.one_atom_is_a_part.Goals as goal

pub returns-clause-part : goal.returns-clause-part
returns-clause-part c = one_atom

pub returns-clause-link : goal.returns-clause-link
returns-clause-link c = other_link

pub returns-clause-atoms : goal.returns-clause-atoms
returns-clause-atoms c = more_atoms

pub returns-clause-name : goal.returns-clause-name
returns-clause-name c = λ flat f p e. e
