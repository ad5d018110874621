-- The plain of a text.
use Rattle.std.specs.Prelude.{ℕ, ◌≡◌, List}
use Rattle.std.specs.declared.alloc.Global.{Global}
use Rattle.std.specs.List.{AllByRecursion}
use Rattle.lmn_base.specs.declared.rule.Plain.{Plain}
use Rattle.lmn_base.specs.Links.{NumbersLinks}
use Rattle.lmn_base.specs.declared.solid.Solid.{Solid}
use Rattle.lmn_base.specs.Names.{IsNames, NamesSolid}
use Rattle.lmn_base.specs.Solids.{IsSolid, HasEachRule}
use Rattle.lmn_base.specs.WellMade.{IsWellMade}
use Rattle.lmn_congruence.specs.Plains.{SolidOf}
use Rattle.lmn_congruence.specs.Rules.{Name, Level}
use Rattle.lmn_congruence.specs.Translation.{region_of, top_of}
use Rattle.lmn_lexer.specs.declared.token.Kind.TheVariants.{Int}
use Rattle.lmn_lexer.specs.declared.token.Token.{Token}
use Rattle.lmn_lexer.specs.Faults.{SpelledInRange}
use Rattle.lmn_lexer.specs.Laying.{Word, words_of}
use Rattle.lmn_parser.specs.Readings.{Reads}
use Rattle.lmn_parser.specs.Syntax.{Clauses}
use Rattle.lmn_flatten_plain.specs.Laws.{IsPlain}
use Rattle.lmn_flatten_plain.specs.LinkNumbers.{level_links, RulesNumbered}
use Rattle.lmn_flatten_plain.specs.NamesHeld.{LevelHeld}
use Rattle.lmn_flatten_plain.specs.Outside.{NoContexts}
use Rattle.lmn_flatten_plain.specs.SamePlains.{SamePlain}
use Rattle.lmn_flatten_plain.specs.SolidLines.{level_of_solid, solid_line}
use Rattle.lmn_flatten_plain.specs.Spelled.{LevelSpelled}
use Rattle.lmn_flatten_plain.specs.Words.{line_of}

-- The text reads as a tree whose integers have 64 bits, and the plain is that of the tree, with the numbers of a list of names.
pub record IsPlainOfText (text : List ℕ) (names : List Name) (p : Plain) : Type 0 where
  pub tokens : List Token
  pub tree : Clauses
  pub reads : Reads text tokens tree
  pub in_range : AllByRecursion (λ (w : Word). w.kind ≡ Int → SpelledInRange w.bytes) (words_of text tokens)
  pub plain : IsPlain text tokens tree names p

-- a text has one plain at most
abbrev pub OneTextPlain : Type 0
OneTextPlain = (text : List ℕ) (names : List Name) (p q : Plain) → IsPlainOfText text names p → IsPlainOfText text names q → SamePlain p q

-- What is printed reads back: the line has a plain, and its top is what was printed.
abbrev pub LinesReadBack : Type 0
LinesReadBack = (alloc : Global) (names : List Name) (l : Level) (n : ℕ)
    → IsNames names → LevelHeld names l → LevelSpelled l → NumbersLinks (level_links l) n → RulesNumbered l → NoContexts l
    → (p : Plain) × IsPlainOfText (line_of l) names p × (top_of names p ≡ l)

-- The same of a solid, whose rules a well made plain gives by their numbers: the line has a plain, and its top is the solid as
-- a level. So its solid is this one, rules being compared as trees.
abbrev pub SolidLinesReadBack : Type 0
SolidLinesReadBack = (alloc : Global) (names : List Name) (given : Plain) (s : Solid) → let table = given.rules in
    IsWellMade given → IsSolid s → HasEachRule table s → NamesSolid names table s → LevelSpelled (level_of_solid names table s)
    → (p : Plain) × IsPlainOfText (solid_line names table s) names p
    × (top_of names p ≡ level_of_solid names table s) × SolidOf (top_of names p) (region_of names table s)

-- each integer has 64 bits, as laws and lemmas tell it
abbrev pub IntegersInRange : List Word → Type 0
IntegersInRange words = AllByRecursion (λ w. w.kind ≡ Int → SpelledInRange w.bytes) words
