-- What the scanner knows of a text. No public contract cites these words.
use Rattle.std.specs.Prelude.{◌≡◌, ℕ, ◌≤◌, List, length, take, drop}
use Rattle.lmn_lexer.specs.declared.token.Token.{Token}
use Rattle.lmn_lexer.specs.declared.scanner.Scanner.{Scanner}
use Rattle.lmn_lexer.specs.Cutting.{Cutting, Reaches, place, minus_behind}
use Rattle.lmn_lexer.specs.Faults.{NothingWrongBefore}

-- a text that is cut into tokens before a place
abbrev pub cut_at : List ℕ → ℕ → List Token → Cutting
cut_at text at tokens = record { before = take at text; tokens = tokens; rest = drop at text }

-- the text is cut so, and nothing is wrong before the place
pub record IsCut (text : List ℕ) (at : ℕ) (tokens : List Token) : Type 0 where
  pub within : at ≤ length text
  pub reached : Reaches text (cut_at text at tokens)
  pub right : NothingWrongBefore text at

-- the scanner has cut the text up to its place
pub record IsScanned (text : List ℕ) (scanner : Scanner) : Type 0 where
  pub cut : IsCut text scanner.at scanner.tokens
  pub placed : scanner.pos ≡ place (take scanner.at text)
  pub minus : scanner.minus ≡ minus_behind scanner.tokens
