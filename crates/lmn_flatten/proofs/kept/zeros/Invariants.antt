use Rattle.std.proofs.Common.{◌≡◌, length, All}
use Rattle.lmn_flatten.proofs.kept.zeros.Given as goal

abbrev pub invariant-loop : goal.invariant-loop
invariant-loop l = (length l.zeros ≡ l.counter) × All (λ n. n ≡ 0) l.zeros
