use Rattle.std.proofs.Common.{◌≡◌, drop}
use Rattle.lmn_lexer.specs.Scanning.{close_at, later}
use Rattle.lmn_lexer.proofs.piece.close.Given as goal

abbrev pub invariant-loop-i : goal.invariant-loop-i
invariant-loop-i l = close_at l.text ≡ later l.i (close_at (drop l.i l.text))
