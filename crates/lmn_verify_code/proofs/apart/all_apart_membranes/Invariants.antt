use Rattle.std.proofs.Common.{◌≡◌, drop}
use Rattle.lmn_verify_code.specs.Verified.{each_two, are_apart_membranes}
use Rattle.lmn_verify_code.proofs.apart.all_apart_membranes.Given as goal

abbrev pub invariant-loop-at : goal.invariant-loop-at
invariant-loop-at l = each_two (are_apart_membranes l.head) (drop l.at l.membranes) ≡ each_two (are_apart_membranes l.head) l.membranes
