-- How a label is printed: a name bare where it may be, and an integer in decimal.
use Rattle.std.specs.Prelude.{ℕ, ◌<◌, List, [], length, slice_index_or}
use Rattle.std.specs.Fmt.{signed_decimal}
use Rattle.lmn_base.specs.declared.functor.Label.{Label}
use Rattle.lmn_base.specs.declared.functor.Label.TheVariants.{Name, Int}
use Rattle.lmn_lexer.specs.NameText.{name_text}

-- with the names of a list, by their numbers
abbrev pub listed_label_text : List (List ℕ) → Label → List ℕ
listed_label_text names (Name n) = name_text (slice_index_or names n [])
listed_label_text names (Int z) = signed_decimal z

-- the list has the name of a label
abbrev pub HasLabel : List (List ℕ) → Label → Type 0
HasLabel names (Name n) = n < length names
HasLabel names (Int z) = Unit {0}
