use Rattle.std.proofs.Common.{◌≡◌, ◌+◌, ◌-◌, drop, length}
use Rattle.lmn_lexer.specs.Scanning.{quoted_behind}
use Rattle.lmn_lexer.proofs.piece.quoted.Given as goal

abbrev pub invariant-loop-at : goal.invariant-loop-at
invariant-loop-at l = quoted_behind 1 l.rest ≡ quoted_behind (l.at + 1) (drop l.at l.rest)

abbrev pub decreases-loop-at : goal.decreases-loop-at
decreases-loop-at l = length l.rest - l.at
