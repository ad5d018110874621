use Rattle.std.proofs.Common.{◌-◌, length}
use Rattle.lmn_lexer.specs.Scanners.{IsScanned}
use Rattle.lmn_lexer.proofs.scanner.lex.Given as goal

abbrev pub invariant-cut : goal.invariant-cut
invariant-cut l = IsScanned l.text l.scanner

abbrev pub decreases-cut : goal.decreases-cut
decreases-cut l = length l.text - l.scanner.at
