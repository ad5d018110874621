-- The law of reading folded lines.
use Rattle.std.specs.Prelude.{ℕ, ◌≡◌, List, map}
use Rattle.lmn_congruence.specs.Orders.{Among, EachOnce}
use Rattle.lmn_lexer.specs.declared.token.Token.{Token}
use Rattle.lmn_lexer.specs.Faults.{NothingWrong}
use Rattle.lmn_lexer.specs.Laying.{words_of}
use Rattle.lmn_parser.specs.Readings.{Reads}
use Rattle.lmn_parser.specs.Syntax.{Clauses}
use Rattle.lmn_flatten_plain.specs.Expansion.{parts_of}
use Rattle.lmn_flatten_plain.specs.Laws.{NamesAreShort}
use Rattle.lmn_flatten_plain.specs.Links.{Link, made}
use Rattle.lmn_flatten_plain.specs.Parts.{level_from_parts}
use Rattle.lmn_print_folded.specs.Terms.{Folded}
use Rattle.lmn_print_folded.specs.Words.{line_of_folded}
use Rattle.lmn_print_folded_laws.specs.Spelled.{FoldedSpelled}
use Rattle.lmn_print_folded_laws.specs.Apart.{FoldedApart}

-- The tree of a text gives this folded process taken apart, each term with a link of its own: one that was made for it.
pub record IsTreeOf (text : List ℕ) (tokens : List Token) (tree : Clauses) (f : Folded) : Type 0 where
  pub own_links : List Link
  pub apart :
      (let words = words_of text tokens in
      let places = map (λ t. t.pos) tokens in
      let parts = parts_of words places tree in FoldedApart words places parts.table f (level_from_parts parts) own_links)
  pub different : EachOnce own_links
  pub none_written : (a : Link) → Among a own_links → (way : List ℕ) × (a ≡ made way)

-- The line of a folded process that a text can spell reads as the tree of this process. In it nothing is wrong, where its names are
-- short.
abbrev pub FoldedLinesAreRead : Type 0
FoldedLinesAreRead = (f : Folded) → FoldedSpelled f
    → (tokens : List Token) × (tree : Clauses) × Reads (line_of_folded f) tokens tree × (NamesAreShort (words_of (line_of_folded f) tokens) → NothingWrong (line_of_folded f))
    × IsTreeOf (line_of_folded f) tokens tree f
