use Rattle.std.proofs.Common.{◌≡◌, ◌++◌, drop}
use Rattle.lmn_verify_code.specs.Verified.{atoms_found}
use Rattle.lmn_verify_code.proofs.tables.atoms_found.Given as goal

abbrev pub invariant-loop-at : goal.invariant-loop-at
invariant-loop-at l = l.atoms ++ atoms_found (drop l.at l.head) ≡ atoms_found l.head
