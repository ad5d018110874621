-- Lists of numbers: how one begins, and what is in it.
use Rattle.std.specs.Prelude.{List, ℕ, ◌++◌, ◌≡◌, [], ◌∷◌, ◌⊎◌}

-- a part begins a list
abbrev pub Begins : List ℕ → List ℕ → Type 0
Begins part text = (after : List ℕ) × (text ≡ part ++ after)

-- the number is in the list
abbrev pub In : ℕ → List ℕ → Type 0
In a [] = ⊥
In a (x ∷ xs) = (x ≡ a) ⊎ In a xs
