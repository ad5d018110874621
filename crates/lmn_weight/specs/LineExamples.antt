-- Texts that tell weights and texts that don't, and lists of names and weights beside one another.
use Rattle.std.specs.Prelude.{ℕ, List, [], ◌∷◌, ◌++◌, codes}
use Rattle.lmn_base.specs.declared.functor.Label.TheVariants.{Name}
use Rattle.lmn_base.specs.Names.{first_names}
use Rattle.lmn_weight.specs.declared.weights.Weights.{Weights}
use Rattle.lmn_weight.specs.Lines.{AreWeightsOf, HasText, IsFirstWrongWeightLine}
use Rattle.lmn_weight.specs.OneReading.{AreAlike, StandsBehind}

-- a name more
abbrev pub names_with : List ℕ → List (List ℕ)
names_with name = first_names ++ name ∷ []

-- an atom without links whose name has this number weighs 1, integers 2 and membranes 3
abbrev pub small_weights : ℕ → Weights
small_weights name = record { functors = record { label = Name name; arity = 0 } ∷ []; values = 1 ∷ []; int = 2; membrane = 3 }

-- each line is of the form, and they name three things
abbrev pub ThreeAreTold : Type 0
ThreeAreTold = AreWeightsOf (names_with (codes "a")) (codes "a/0 1\nint 2\n{} 3\n") (small_weights 4)

-- an atom has at most 255 links
abbrev pub WideIsWrong : Type 0
WideIsWrong = IsFirstWrongWeightLine first_names (codes "a/300 1\n") (record { code = 85; pos = record { line = 1; column = 1 } })

-- a functor of a name that the list has has a text, and one of so many links hasn't
abbrev pub SomeHaveText : Type 0
SomeHaveText = HasText (names_with (codes "a")) (record { label = Name 4; arity = 0 })

abbrev pub WideHasNoText : Type 0
WideHasNoText = (names : List (List ℕ)) → ¬ (HasText names (record { label = Name 0; arity = 300 }))

-- a list with a name more stands behind the first names, and these don't behind it
abbrev pub OneMoreStandsBehind : Type 0
OneMoreStandsBehind = StandsBehind first_names (names_with (codes "a"))

abbrev pub OneFewerDoesNot : Type 0
OneFewerDoesNot = ¬ (StandsBehind (names_with (codes "a")) first_names)

-- Weights that differ for other functors alone are alike for the first names; and for names among which one of these is they
-- aren't.
abbrev pub OthersAreAlike : Type 0
OthersAreAlike = AreAlike first_names (small_weights 4) (small_weights 5)

abbrev pub TheseAreNot : Type 0
TheseAreNot = ¬ (AreAlike (names_with (codes "a")) (small_weights 4) (small_weights 5))
