-- Bytes of lines.
use Rattle.std.specs.Prelude.{ℕ, ◌≡◌, ◌≢◌, ◌++◌, List, [], ◌∷◌}
use Rattle.std.specs.List.{AllByRecursion}

-- no byte is a line feed
abbrev pub NoFeed : List ℕ → Type 0
NoFeed bytes = AllByRecursion (λ b. b ≢ 10) bytes

-- where a line feed is in the text, this is what stands up to the first one
abbrev pub IsFirstLine : (text line : List ℕ) → Type 0
IsFirstLine text line = (front more : List ℕ) → NoFeed front → text ≡ front ++ (10 ∷ more) → line ≡ front ++ 10 ∷ []
