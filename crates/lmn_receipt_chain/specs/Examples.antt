-- Small chains.
use Rattle.std.specs.Prelude.{ℕ, ◌≡◌, ⊤, List, [], ◌∷◌, false, true, None, Some, codes}
use Rattle.lmn_base.specs.declared.solid.Solid.{Solid}
use Rattle.lmn_congruence.specs.Regions.{Region, no_region, region, region_and}
use Rattle.lmn_congruence.specs.Rules.{named}
use Rattle.lmn_reduction.specs.Examples.{label_a, label_b}
use Rattle.lmn_adequacy.specs.ChangeExamples.{changing}
use Rattle.lmn_receipt_chain.specs.Bytes.{IsFirstLine}
use Rattle.lmn_receipt_chain.specs.Chains.{Continues, IsChain, IsWrongTrace, at_line, line_of_solid}
use Rattle.lmn_receipt_chain.specs.Found.{AreLeftOut, IsNextFound}
use Rattle.lmn_receipt_chain.specs.OneFeed.{HaveOneFeed}

-- the solid of `a.`
abbrev pub one_atom : Region
one_atom = region (record { label = named (codes "a"); links = [] } ∷ []) no_region []

-- without a rule its trace is its line and the end
abbrev pub NothingFires : Type 0
NothingFires = IsChain one_atom (codes "a.\n% irreducible after 0\n") 0

-- another word at the end is wrong,
abbrev pub WrongWord : Type 0
WrongWord = IsWrongTrace one_atom (codes "a.\n% budget after 0\n") (at_line 62 2)

-- and so is a trace without an end line, or with something behind it;
abbrev pub NoEnd : Type 0
NoEnd = IsWrongTrace one_atom (codes "a.\n") (at_line 62 2)

abbrev pub MoreBehind : Type 0
MoreBehind = IsWrongTrace one_atom (codes "a.\n% irreducible after 0\n\n") (at_line 62 2)

-- another line behind it is that of no firing,
abbrev pub NoFiring : Type 0
NoFiring = IsWrongTrace one_atom (codes "a.\nb.\n% irreducible after 1\n") (at_line 61 2)

-- and a trace that is empty begins with no line.
abbrev pub Empty : Type 0
Empty = IsWrongTrace one_atom [] (at_line 61 1)

-- `a. a :- b.` has a chain of two solids,
abbrev pub TwoSolids : Type 0
TwoSolids = IsChain (changing (label_a ∷ [])) (codes "a. (a :- b).\nb. (a :- b).\n% irreducible after 1\n") 1

-- and its first line alone is none.
abbrev pub CutShort : Type 0
CutShort = IsWrongTrace (changing (label_a ∷ [])) (codes "a. (a :- b).\n") (at_line 62 2)

-- in a membrane
abbrev pub inside : Region → Region
inside S = region [] (region_and S no_region) []

-- In `{a. a :- b.}` the membrane is asked before the root, and chosen. What it becomes nothing continues.
abbrev pub MembraneIsChosen : Type 0
MembraneIsChosen = (c : Continues (inside (changing (label_a ∷ []))) (inside (changing (label_b ∷ [])))) × (c.from ≡ 1) × (c.next.path ≡ 0 ∷ [])

abbrev pub NothingContinues : Type 0
NothingContinues = (S : Region) → ¬ (Continues (inside (changing (label_b ∷ []))) S)

-- No solid is next to `a.`: whatever the text, what is found there need not be made.
abbrev pub NothingIsNext : Type 0
NothingIsNext = (text : List ℕ) → IsNextFound (λ s. ⊤) (λ s. one_atom) one_atom 0 text (record { solid = None; reach = 0 })

-- It has one membrane, the root, so there is no reach beyond the number 0.
abbrev pub NoGreaterReach : Type 0
NoGreaterReach = (text : List ℕ) → ¬ (IsNextFound (λ s. ⊤) (λ s. one_atom) one_atom 0 text (record { solid = None; reach = 1 }))

-- A solid that is made is one that fits and is next, so none is made there.
abbrev pub NoneIsMade : Type 0
NoneIsMade = (text : List ℕ) (s : Solid) → ¬ (IsNextFound (λ s. ⊤) (λ s. one_atom) one_atom 0 text (record { solid = Some s; reach = 0 }))

-- The first line of a text ends with its first line feed.
abbrev pub FirstOfTwo : Type 0
FirstOfTwo = IsFirstLine (codes "a.\nb.\n") (codes "a.\n")

abbrev pub NotTheSecond : Type 0
NotTheSecond = ¬ (IsFirstLine (codes "a.\nb.\n") (codes "b.\n"))

-- Where no membrane is marked none is left out.
abbrev pub NothingIsLeftOut : Type 0
NothingIsLeftOut = (S : Region) (text : List ℕ) → AreLeftOut S text []

-- In `{a. a :- b.}` the membrane isn't left out beside the line of `{b. a :- b.}`.
abbrev pub ChosenIsAsked : Type 0
ChosenIsAsked = ¬ (AreLeftOut (inside (changing (label_a ∷ []))) (line_of_solid (inside (changing (label_b ∷ [])))) (false ∷ true ∷ []))

-- The line of `a.` has one line feed, and nothing continues it; where the name of an atom is a line feed it has two.
abbrev pub OneFeed : Type 0
OneFeed = HaveOneFeed one_atom

abbrev pub TwoFeeds : Type 0
TwoFeeds = ¬ (HaveOneFeed (region (record { label = named (codes "\n"); links = [] } ∷ []) no_region []))
