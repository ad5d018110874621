-- Links, and how often one stands in a list.
use Rattle.std.specs.Prelude.{ℕ, ◌+◌, ◌==◌, cond, List, [], ◌∷◌}

-- A link is a number. 1 where two links are one, and else 0.
abbrev pub one_if_same : ℕ → ℕ → ℕ
one_if_same x y = cond (x == y) 1 0

-- how often a link stands in a list
abbrev pub places : ℕ → List ℕ → ℕ
places x [] = 0
places x (y ∷ ys) = one_if_same x y + places x ys
