-- A word that the contract of a private function cites alone.
use Rattle.std.specs.Prelude.{ℕ, ◌-◌, List, take, drop}

-- what stands in a list from a number to another
abbrev pub between : ℕ → ℕ → List ℕ → List ℕ
between i j xs = take (j - i) (drop i xs)
