use Rattle.std.proofs.Common.{◌≡◌, drop}
use Rattle.lmn_verify_code.specs.Verified.{makes_and_ties}
use Rattle.lmn_verify_code.proofs.bodies.makes_and_ties.Given as goal

abbrev pub invariant-loop-at : goal.invariant-loop-at
invariant-loop-at l = makes_and_ties l.head_membranes l.rules l.head_atoms (drop l.at l.body) ≡ makes_and_ties l.head_membranes l.rules l.head_atoms (drop l.from l.body)
