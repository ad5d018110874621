use Rattle.std.proofs.Common.{◌∙◌, ap, subst}
use Rattle.lmn_base.specs.Lists.{In}
use Rattle.lmn_solid_tables.specs.Flats.{heap_of}
use Rattle.lmn_adequacy_turns.proofs.Leavings.{listed_there}
use Rattle.lmn_solid_firing.specs.Making.{left_of}
use Rattle.lmn_solid_firing.proofs.Laying.{in_left_of}
use Rattle.lmn_solid_firing.proofs.contexts.add_left_membranes.Goals as goal

pub add_whole-requires-clause-membranes : goal.add_whole-requires-clause-membranes
add_whole-requires-clause-membranes c = λ a i.
    listed_there (heap_of c.args.flat.now) c.requires.valid a c.args.membrane (subst (In a) c.membranes.ensures
    (in_left_of c.args.taken.now.membranes c.membranes.result.now a (subst (In a) (c.as_slice-2.ensures ∙ c.in_ok-numbers.ensures ∙ ap (λ z. left_of z c.membranes.result.now) c.as_slice.ensures) i)))
