use Rattle.std.proofs.Common.{◌≡◌, drop}
use Rattle.lmn_verify_code.specs.Verified.{all_looked_at}
use Rattle.lmn_verify_code.proofs.heads.all_looked_at.Given as goal

abbrev pub invariant-loop-at : goal.invariant-loop-at
invariant-loop-at l = all_looked_at (drop l.at l.head) ≡ all_looked_at l.head
