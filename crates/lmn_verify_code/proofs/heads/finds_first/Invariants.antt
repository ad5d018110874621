use Rattle.std.proofs.Common.{◌≡◌, drop}
use Rattle.lmn_verify_code.specs.Verified.{finds_first}
use Rattle.lmn_verify_code.proofs.heads.finds_first.Given as goal

abbrev pub invariant-loop-at : goal.invariant-loop-at
invariant-loop-at l = finds_first (drop l.at l.head) ≡ finds_first l.head
