use Rattle.lmn_adequacy_heaps.proofs.OutOf.{index_in}
use Rattle.lmn_solid_firing.proofs.atoms.add_atoms.Goals as goal

pub add_atom-requires-clause-atom : goal.add_atom-requires-clause-atom
add_atom-requires-clause-atom c = c.requires.numbers _ (index_in c.args.numbers.now c.loop-atom.atom-index c.loop-atom-test.true)
