use Rattle.std.proofs.Common.{◌≡◌, drop}
use Rattle.lmn_verify_code.specs.Verified.{ties_and_ends}
use Rattle.lmn_verify_code.proofs.bodies.ties_and_ends.Given as goal

abbrev pub invariant-loop-at : goal.invariant-loop-at
invariant-loop-at l = ties_and_ends l.head_atoms (drop l.at l.body) ≡ ties_and_ends l.head_atoms (drop l.from l.body)
