use Rattle.std.proofs.Common.{◌≡◌, take}
use Rattle.lmn_parser_grammar.specs.Scan as scanner
use Rattle.lmn_parser_grammar.specs.Refusing.{IsWithin}
use Rattle.lmn_parser.specs.Parsing.{kinds_of}
use Rattle.lmn_parser.specs.Scans.{scan_of}
use Rattle.lmn_parser.proofs.limits.first_passing.Given as goal

abbrev pub invariant-loop-at : goal.invariant-loop-at
invariant-loop-at l = record {
  scan : scan_of l.scan ≡ scanner.scan (take l.at (kinds_of l.tokens));
  within : IsWithin (take l.at (kinds_of l.tokens));
}
