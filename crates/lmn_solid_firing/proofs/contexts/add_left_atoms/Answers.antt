use Rattle.std.proofs.Common.{◌∙◌, ap, subst}
use Rattle.lmn_base.specs.Lists.{In}
use Rattle.lmn_solid_tables.specs.Flats.{heap_of}
use Rattle.lmn_solid_firing.specs.Making.{left_of}
use Rattle.lmn_solid_firing.proofs.Laying.{in_left_of}
use Rattle.lmn_solid_firing.proofs.Wholes.{atoms_there}
use Rattle.lmn_solid_firing.proofs.contexts.add_left_atoms.Goals as goal

pub add_atoms-requires-clause-numbers : goal.add_atoms-requires-clause-numbers
add_atoms-requires-clause-numbers c = λ a i.
    atoms_there (heap_of c.args.flat.now) c.requires.valid c.args.membrane a (subst (In a) c.atoms.ensures
    (in_left_of c.args.taken.now.atoms c.atoms.result.now a (subst (In a) (c.as_slice-2.ensures ∙ c.in_ok-numbers.ensures ∙ ap (λ z. left_of z c.atoms.result.now) c.as_slice.ensures) i)))
