-- What single lines of a script are found to be. Contracts of functions that aren't public cite these words alone.
use Rattle.std.specs.Prelude.{ℕ, ◌≡◌, ◌⊎◌, Bool, true, false, List, [], ◌∷◌, ◌++◌, Option, Some, None}
use Rattle.lmn_debug_script.specs.declared.order.Order.{Order}
use Rattle.lmn_debug_script.specs.Scripts.{HasForm, IsOrder, MayStand}

-- the order that a line is, or none where the line has the form of none
abbrev pub Reads : List (List ℕ) → List ℕ → Option Order → Type 0
Reads names line (Some order) = IsOrder names line order
Reads names line None = ¬ (HasForm line)

-- a line that may stand adds its order, if it is one
abbrev pub TakesLine : List (List ℕ) → List ℕ → List Order → List Order → Bool → Type 0
TakesLine names line old new true =
    ((line ≡ []) × (new ≡ old)) ⊎ ((order : Order) × IsOrder names line order × (new ≡ old ++ order ∷ []))
TakesLine names line old new false = ¬ (MayStand line)
