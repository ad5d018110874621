use Rattle.std.proofs.Common.{◌≡◌, drop}
use Rattle.lmn_verify_code.specs.Verified.{each_two, are_apart}
use Rattle.lmn_verify_code.proofs.apart.all_apart.Given as goal

abbrev pub invariant-loop-at : goal.invariant-loop-at
invariant-loop-at l = each_two (are_apart l.head) (drop l.at l.atoms) ≡ each_two (are_apart l.head) l.atoms
