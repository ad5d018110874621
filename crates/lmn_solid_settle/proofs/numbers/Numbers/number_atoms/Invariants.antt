use Rattle.lmn_solid_settle.specs.Tables.{numbered_atom, atom_keys}
use Rattle.lmn_solid_settle.proofs.NumberLoops.{Passed}
use Rattle.lmn_solid_settle.proofs.numbers.Numbers.number_atoms.Given as goal

abbrev pub invariant-loop-atom : goal.invariant-loop-atom
invariant-loop-atom l = Passed numbered_atom atom_keys l.fn.self l.self l.atom-index l.fn.atoms l.atoms
