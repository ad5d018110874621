-- Which token refuses tokens, and why.
use Rattle.std.specs.Prelude.{◌≡◌, ℕ, List, slice_get, Some}
use Rattle.lmn_base.specs.declared.refusal.Refusal.{Refusal}
use Rattle.lmn_base.specs.declared.refusal.TextFault.{TextFault}
use Rattle.lmn_base.specs.declared.refusal.TextFault.TheVariants.{Refused, NoMemory}
use Rattle.lmn_parser_grammar.specs.Refusing.{IsRefused}
use Rattle.lmn_lexer.specs.declared.token.Kind.{Kind}
use Rattle.lmn_lexer.specs.declared.token.Token.{Token}
use Rattle.lmn_parser.specs.Parsing.{kinds_of}
use Rattle.lmn_parser.specs.Syntax.{Clauses}
use Rattle.lmn_parser.specs.Trees.{IsProgram}

-- the kinds of tokens that are a tree
abbrev pub AreKindsOfProgram : List Kind → Type 0
AreKindsOfProgram kinds = (tokens : List Token) × (tree : Clauses) × (kinds_of tokens ≡ kinds) × IsProgram tokens tree

-- The refusal has the code by which a token refuses the tokens, and the place of that token.
pub record IsRefusalOf (tokens : List Token) (refusal : Refusal) : Type 0 where
  pub number : ℕ
  pub token : Token
  pub is_there : slice_get tokens number ≡ Some token
  pub placed : refusal.pos ≡ token.pos
  pub refused : IsRefused AreKindsOfProgram (kinds_of tokens) number refusal.code

-- Tokens are refused so. Want of memory says nothing of them.
abbrev pub IsFaultOf : List Token → TextFault → Type 0
IsFaultOf tokens (Refused refusal) = IsRefusalOf tokens refusal
IsFaultOf tokens NoMemory = Unit {0}
