-- Lists of numbers: what is in them, and their parts.
use Rattle.std.specs.Prelude.{ℕ, ◌≢◌, ◌==◌, List, [], ◌∷◌, Option, Some, None, if◌then◌else◌}
use Rattle.std.specs.List.{AllByRecursion}

-- no number stands twice
abbrev pub Distinct : List ℕ → Type 0
Distinct [] = Unit {0}
Distinct (x ∷ xs) = AllByRecursion (λ y. x ≢ y) xs × Distinct xs

-- without the first a
abbrev pub without : ℕ → List ℕ → List ℕ
without a [] = []
without a (x ∷ xs) = if x == a then xs else x ∷ without a xs

-- what stands behind the first a
abbrev pub after : ℕ → List ℕ → List ℕ
after a [] = []
after a (x ∷ xs) = if x == a then xs else after a xs

-- a list from a number on, and nothing from None on. So `from r xs ≡ xs` says that r is the first of xs.
abbrev pub from : Option ℕ → List ℕ → List ℕ
from None xs = []
from (Some a) xs = a ∷ after a xs

-- a list without some numbers
abbrev pub without_all : List ℕ → List ℕ → List ℕ
without_all [] xs = xs
without_all (b ∷ bs) xs = without_all bs (without b xs)
