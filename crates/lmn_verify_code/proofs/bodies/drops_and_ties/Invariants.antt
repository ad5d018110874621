use Rattle.std.proofs.Common.{◌≡◌, drop}
use Rattle.lmn_verify_code.specs.Verified.{drops_and_ties}
use Rattle.lmn_verify_code.proofs.bodies.drops_and_ties.Given as goal

abbrev pub invariant-loop-at : goal.invariant-loop-at
invariant-loop-at l = drops_and_ties l.head_membranes l.head_atoms (drop l.at l.body) ≡ drops_and_ties l.head_membranes l.head_atoms (drop l.from l.body)
