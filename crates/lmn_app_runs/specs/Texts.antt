-- Plains of texts of which runs can be printed.
use Rattle.std.specs.Prelude.{ℕ, ◌≡◌, List, Some, Contains, codes, slice_get}
use Rattle.lmn_base.specs.declared.rule.Plain.{Plain}
use Rattle.lmn_base.specs.declared.rule.RuleTree.{RuleTree}
use Rattle.lmn_base.specs.Names.{NamesPlain}
use Rattle.lmn_base.specs.WellMade.{IsWellMade}
use Rattle.lmn_congruence.specs.Rules.{Name as NameOf}
use Rattle.lmn_congruence.specs.Translation.{numbered_rule, rule_tree}
use Rattle.lmn_adequacy.specs.Accepted.{Accepted}
use Rattle.lmn_lexer.specs.Faults.{NothingWrong}
use Rattle.lmn_lexer.specs.Values.{bytes_of}
use Rattle.lmn_lexer.specs.declared.token.Kind.{Kind}
use Rattle.lmn_lexer.specs.declared.token.Kind.TheVariants.{Name, Quoted, Mod, Context, RuleCtx}
use Rattle.lmn_lexer.specs.declared.token.Token.{Token}
use Rattle.lmn_parser.specs.Readings.{Reads}
use Rattle.lmn_parser.specs.Syntax.{Clauses}
use Rattle.lmn_flatten_plain.specs.Laws.{IsPlain}
use Rattle.lmn_flatten_plain.specs.Meanings.{name_spelled}
use Rattle.lmn_app_runs.specs.Laws.{IsPrintable}

-- the kinds of tokens that spell a name
abbrev pub HasName : Kind → Type 0
HasName Name = Unit {0}
HasName Quoted = Unit {0}
HasName Mod = Unit {0}
HasName Context = Unit {0}
HasName RuleCtx = Unit {0}
HasName _ = ⊥

-- A list holds the names of the tokens of a text, and those that abbreviations and equations bring in.
pub record HoldsTokenNames (names : List NameOf) (text : List ℕ) (tokens : List Token) : Type 0 where
  pub cell : Contains names (codes ".")
  pub empty : Contains names (codes "[]")
  pub plus : Contains names (codes "+")
  pub equals : Contains names (codes "=")
  pub token : (p : ℕ) (t : Token) → slice_get tokens p ≡ Some t → HasName t.kind → Contains names (name_spelled t.kind (bytes_of text t))

-- What reading makes sure of the plain of a text.
--   right      nothing is wrong in it, it reads as a tree, and the plain is that of the tree, by the numbers of a list of names
--   holds      the list holds the names of its tokens, and of the plain
--   accepted   each rule is accepted
pub record IsPlainRead (text : List ℕ) (names : List NameOf) (plain : Plain) : Type 0 where
  pub tokens : List Token
  pub tree : Clauses
  pub right : NothingWrong text
  pub reads : Reads text tokens tree
  pub is_plain : IsPlain text tokens tree names plain
  pub made : IsWellMade plain
  pub named : NamesPlain names plain
  pub holds : HoldsTokenNames names text tokens
  pub accepted : (k : ℕ) (r : RuleTree) → slice_get plain.rules k ≡ Some r → Accepted (rule_tree names (numbered_rule names plain.rules) r)

-- Runs of such a plain can be printed.
abbrev pub PlainsArePrintable : Type 0
PlainsArePrintable = (text : List ℕ) (names : List NameOf) (plain : Plain) → IsPlainRead text names plain → IsPrintable names plain
