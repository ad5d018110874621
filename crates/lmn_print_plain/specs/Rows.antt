-- Items in a row, with the same bytes between two of them.
use Rattle.std.specs.Prelude.{ℕ, Bool, true, if◌then◌else◌, List, [], ◌∷◌, ◌++◌}

-- the bytes between two items, where one stands before
abbrev pub between_if : List ℕ → Bool → List ℕ
between_if between any = if any then between else []

-- the texts of items, where `any` says whether an item stands before them
abbrev pub in_row : List ℕ → Bool → List (List ℕ) → List ℕ
in_row between any [] = []
in_row between any (t ∷ ts) = between_if between any ++ (t ++ in_row between true ts)

-- whether an item stands before what comes behind these
abbrev pub any_behind : {X : Type 0} → Bool → List X → Bool
any_behind any [] = any
any_behind any (x ∷ xs) = true
