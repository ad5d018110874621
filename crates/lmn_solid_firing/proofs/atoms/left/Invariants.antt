use Rattle.std.proofs.Common.{◌≡◌, ◌++◌, drop}
use Rattle.lmn_solid_firing.specs.Making.{left_of}
use Rattle.lmn_solid_firing.proofs.atoms.left.Given as goal

abbrev pub invariant-loop-number : goal.invariant-loop-number
invariant-loop-number l = l.rows ++ left_of l.taken (drop l.number-index l.numbers) ≡ left_of l.taken l.numbers
