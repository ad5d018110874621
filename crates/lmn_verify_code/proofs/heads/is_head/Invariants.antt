use Rattle.std.proofs.Common.{◌≡◌, drop}
use Rattle.lmn_verify_code.specs.Verified.{is_head}
use Rattle.lmn_verify_code.proofs.heads.is_head.Given as goal

abbrev pub invariant-loop-at : goal.invariant-loop-at
invariant-loop-at l = is_head (drop l.at l.head) ≡ is_head l.head
