-- What own marks tell of `{a(X)}, b(X)`, where the atom `a` stands alone in its membrane.
use Rattle.std.specs.Prelude.{ℕ, List}
use Rattle.lmn_congruence.specs.Rules.{Name}
use Rattle.lmn_print_folding.specs.PrintedExamples.{one_item, two_items}
use Rattle.lmn_print_folding.specs.Children.{IsMarkedIn}
use Rattle.lmn_print_folding.specs.Chosen.{TellsItems}

-- Where both are marked as items, the membrane is told to hold `a(L0)`.
abbrev pub ItemIsTold : Type 0
ItemIsTold = (names : List Name) (name : ℕ → ℕ → ℕ) → TellsItems names two_items name 1

-- The marks of one membrane don't tell its folded form: where `a` alone is marked as an item, it is so as its membrane asks, but
-- `b`, which stands outside, would be printed as a term in it.
abbrev pub OneMembraneIsNotEnough : Type 0
OneMembraneIsNotEnough = IsMarkedIn one_item 1 × ((names : List Name) (name : ℕ → ℕ → ℕ) → TellsItems names one_item name 1 → ⊥)
