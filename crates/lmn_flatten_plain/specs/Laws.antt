-- Laws of plains and of printed lines.
use Rattle.std.specs.Prelude.{ℕ, ◌≡◌, ◌≤◌, ⊤, true, List, [], map, length, AllPairs, IsTrue}
use Rattle.std.specs.declared.alloc.Global.{Global}
use Rattle.lmn_base.specs.declared.refusal.Pos.{Pos}
use Rattle.lmn_base.specs.declared.rule.Plain.{Plain}
use Rattle.lmn_base.specs.Levels.{leaves_of, contexts_of, rule_contexts_of}
use Rattle.lmn_base.specs.Limits.{longest_name}
use Rattle.lmn_base.specs.Links.{NumbersLinks}
use Rattle.lmn_base.specs.Names.{IsNames}
use Rattle.lmn_base.specs.PlaceOrder.{not_after}
use Rattle.lmn_base.specs.WellMade.{IsAtomLeaf, IsWellMade}
use Rattle.std.specs.List.{All, AllByRecursion}
use Rattle.lmn_congruence.specs.Rules.{Name, Label, named, integer, Level}
use Rattle.lmn_congruence.specs.Translation.{top_of}
use Rattle.lmn_lexer.specs.declared.token.Kind.{Kind}
use Rattle.lmn_lexer.specs.declared.token.Kind.TheVariants.{Int}
use Rattle.lmn_lexer.specs.declared.token.Token.{Token}
use Rattle.lmn_lexer.specs.Faults.{NothingWrong, SpelledInRange, TooLong}
use Rattle.lmn_lexer.specs.Laying.{Word, words_of}
use Rattle.lmn_lexer.specs.Spelling.{Spells}
use Rattle.lmn_parser.specs.Readings.{Reads}
use Rattle.lmn_parser.specs.Syntax.{Clauses}
use Rattle.lmn_parser.specs.Trees.{IsProgram}
use Rattle.lmn_flatten_plain.specs.Sizes.{item_count_of_level}
use Rattle.lmn_flatten_plain.specs.SamePlains.{SamePlain}
use Rattle.lmn_flatten_plain.specs.Plains.{IsPlainOf}
use Rattle.lmn_flatten_plain.specs.Labels.{label_text}
use Rattle.lmn_flatten_plain.specs.Meanings.{label_spelled}
use Rattle.lmn_flatten_plain.specs.Words.{label_piece, line_of, word}
use Rattle.lmn_flatten_plain.specs.Spelled.{LabelSpelled, LevelSpelled}
use Rattle.lmn_flatten_plain.specs.LinkNumbers.{level_links, RulesNumbered}
use Rattle.lmn_flatten_plain.specs.NamesHeld.{LevelHeld}
use Rattle.lmn_flatten_plain.specs.Outside.{NoContexts}

-- The tokens of a text are this tree, and the plain is that of the tree, with the numbers of a list of names.
abbrev pub IsPlain : List ℕ → List Token → Clauses → List Name → Plain → Type 0
IsPlain text tokens tree names p = IsPlainOf (words_of text tokens) (map (λ t. t.pos) tokens) names tree p

-- no name is too long
abbrev pub NamesAreShort : List Word → Type 0
NamesAreShort words = AllByRecursion (λ w. ¬ (TooLong w.kind w.bytes)) words

-- the name of a label isn't too long
abbrev pub LabelShort : Label → Type 0
LabelShort (named name) = length name ≤ longest_name
LabelShort (integer z) = ⊤

-- The text of a label that a text can spell is the word in which the label is printed. It is spelled as its kind asks, its integer
-- is in range, its name isn't too long where the label's is not, and it means the label.
abbrev pub LabelsReadBack : Type 0
LabelsReadBack = (l : Label) → LabelSpelled l
    → (kind : Kind) × (label_piece l ≡ word kind (label_text l)) × Spells true kind (label_text l)
    × (kind ≡ Int → SpelledInRange (label_text l)) × (LabelShort l → ¬ (TooLong kind (label_text l))) × (label_spelled kind (label_text l) ≡ l)

-- The plain of a tree is well made, where no context stands outside its rules.
abbrev pub PlainsAreWellMade : Type 0
PlainsAreWellMade = (words : List Word) (places : List Pos) (names : List Name) (tree : Clauses) (p : Plain) → IsPlainOf words places names tree p
    → All IsAtomLeaf (leaves_of p.top) → contexts_of p.top ≡ [] → rule_contexts_of p.top ≡ [] → IsWellMade p

-- A level of the calculus that a text can spell, whose links, and those of each rule in it, are numbered by first
-- occurrence, and in which no context stands outside rules, is printed as a line that reads as a tree; and each plain of that tree,
-- with a list of names that has those of the level, is this level again. In the line nothing is wrong, where its names are short.
abbrev pub LinesAreRead : Type 0
LinesAreRead = (names : List Name) (l : Level) (n : ℕ)
    → IsNames names → LevelHeld names l → LevelSpelled l → NumbersLinks (level_links l) n → RulesNumbered l → NoContexts l
    → (tokens : List Token) × (tree : Clauses) × Reads (line_of l) tokens tree × (NamesAreShort (words_of (line_of l) tokens) → NothingWrong (line_of l))
    × ((p : Plain) → IsPlain (line_of l) tokens tree names p → top_of names p ≡ l)

-- The top of the plain of a tree has, at every depth together, no more atoms and membranes than the tree has tokens.
abbrev pub FewAtTop : Type 0
FewAtTop = (tokens : List Token) (words : List Word) (places : List Pos) (names : List Name) (tree : Clauses) (p : Plain) → IsProgram tokens tree
    → IsPlainOf words places names tree p → item_count_of_level p.top ≤ length tokens

-- A tree has one plain at most with the numbers of a list of names, but for the addresses of boxes in conditions.
abbrev pub OnePlain : Type 0
OnePlain = (words : List Word) (places : List Pos) (names : List Name) (tree : Clauses) (p q : Plain) → IsPlainOf words places names tree p
    → IsPlainOf words places names tree q → SamePlain p q

-- Each tree has a plain. A box in a condition belongs to an allocator, so one is given.
abbrev pub SomePlain : Type 0
SomePlain = (alloc : Global) (words : List Word) (places : List Pos) (names : List Name) (tree : Clauses)
    → (p : Plain) × IsPlainOf words places names tree p

-- The rules of the plain of a text stand by rising place: none stands at the place of one with a lower number, or before it.
abbrev pub RulesByRisingPlace : Type 0
RulesByRisingPlace = (text : List ℕ) (tokens : List Token) (tree : Clauses) (names : List Name) (p : Plain) → Reads text tokens tree
    → IsPlain text tokens tree names p → AllPairs (λ r s. ¬ (IsTrue (not_after s.pos r.pos))) p.rules
