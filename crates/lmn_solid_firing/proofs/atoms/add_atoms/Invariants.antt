use Rattle.std.proofs.Common.{◌≡◌, ◌++◌, drop}
use Rattle.lmn_solid_firing.specs.Making.{written_atoms}
use Rattle.lmn_solid_firing.proofs.atoms.add_atoms.Given as goal

abbrev pub invariant-loop-atom : goal.invariant-loop-atom
invariant-loop-atom l = l.atoms ++ written_atoms l.flat l.writing (drop l.atom-index l.numbers) ≡ l.fn.atoms ++ written_atoms l.flat l.writing l.numbers
