use Rattle.std.proofs.Common.{◌≤◌, ◌-◌, take, length}
use Rattle.lmn_lexer.specs.Spelling.{Quotes}
use Rattle.lmn_lexer.proofs.value.undoubled.Given as goal

abbrev pub invariant-loop-at : goal.invariant-loop-at
invariant-loop-at l = (l.at ≤ length l.inside) × Quotes (take l.at l.inside) l.name

abbrev pub decreases-loop-at : goal.decreases-loop-at
decreases-loop-at l = length l.inside - l.at
