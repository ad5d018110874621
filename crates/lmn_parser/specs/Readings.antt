-- How a text reads.
use Rattle.std.specs.Prelude.{◌≡◌, ℕ, List}
use Rattle.lmn_lexer.specs.Cutting.{Cuts}
use Rattle.lmn_lexer.specs.declared.token.Token.{Token}
use Rattle.lmn_parser.specs.Parsing.{EndsWithEnd}
use Rattle.lmn_parser.specs.Syntax.{Clauses}
use Rattle.lmn_parser.specs.Trees.{IsProgram}

-- The text is cut into these tokens, and the tokens are this tree. No limit of length, nesting or number is known here.
pub record Reads (text : List ℕ) (tokens : List Token) (tree : Clauses) : Type 0 where
  pub cut : Cuts text tokens
  pub is_tree : IsProgram tokens tree

-- a text reads as one tree at most
abbrev pub OneReading : Type 0
OneReading = (text : List ℕ) (tokens others : List Token) (tree other : Clauses) → Reads text tokens tree → Reads text others other
    → (tokens ≡ others) × (tree ≡ other)

-- the tokens of a text end with `End`
abbrev pub CutTextsEnd : Type 0
CutTextsEnd = (text : List ℕ) (tokens : List Token) → Cuts text tokens → EndsWithEnd tokens
