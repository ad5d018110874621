-- The laws of trees.
use Rattle.std.specs.Prelude.{◌≡◌, ◌+◌, List, ◌++◌}
use Rattle.lmn_parser_grammar.specs.Grammar.{Derives, program}
use Rattle.lmn_parser_grammar.specs.Limits.{Open, most_brackets}
use Rattle.lmn_parser_grammar.specs.Refusing.{IsWithin}
use Rattle.lmn_lexer.specs.declared.token.Kind.{Kind}
use Rattle.lmn_lexer.specs.declared.token.Token.{Token}
use Rattle.lmn_parser.specs.Arities.{FitsClauses}
use Rattle.lmn_parser.specs.Parsing.{kinds_of}
use Rattle.lmn_parser.specs.Syntax.{Clauses}
use Rattle.lmn_parser.specs.Trees.{IsProgram}

-- tokens that are a tree are a program of the grammar
abbrev pub TreesDerive : Type 0
TreesDerive = (tokens : List Token) (tree : Clauses) → IsProgram tokens tree → Derives program (kinds_of tokens)

-- tokens are one tree at most
abbrev pub OneProgram : Type 0
OneProgram = (tokens : List Token) (tree other : Clauses) → IsProgram tokens tree → IsProgram tokens other → tree ≡ other

-- tokens that are a program of the grammar are a tree
abbrev pub DerivedIsTree : Type 0
DerivedIsTree = (tokens : List Token) → Derives program (kinds_of tokens) → (tree : Clauses) × IsProgram tokens tree

-- tokens within the limits are a tree of which no atom has more links than an arity holds, and no side more operators than it may have
abbrev pub TreesFit : Type 0
TreesFit = (tokens : List Token) (tree : Clauses) → IsProgram tokens tree → IsWithin (kinds_of tokens) → FitsClauses tree

-- Nowhere more brackets are open than may be. It is said of the tokens: parentheses of a guard leave no node, so a tree doesn't
-- tell how deep it was written.
abbrev pub Shallow : List Kind → Type 0
Shallow kinds = (front rest : List Kind) → kinds ≡ front ++ rest → ¬ (Open (most_brackets + 1) front)

-- and tokens that are such a tree are within the limits, where nowhere more brackets are open than may be
abbrev pub FittingIsWithin : Type 0
FittingIsWithin = (tokens : List Token) (tree : Clauses) → IsProgram tokens tree → FitsClauses tree → Shallow (kinds_of tokens) → IsWithin (kinds_of tokens)
