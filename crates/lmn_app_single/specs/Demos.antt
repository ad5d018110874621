-- The texts that `demo` runs.
use Rattle.std.specs.Prelude.{◌≡◌, ℕ, List, ◌++◌, codes, decimal}
use Rattle.std.specs.List.{flat_map, range_with_len}

-- an atom that holds a number
abbrev pub demo_atom : ℕ → List ℕ
demo_atom number = codes "p(" ++ (decimal number ++ codes "). ")

-- the atoms of the numbers from 1 to n, and a rule that adds two of them
abbrev pub demo_text : ℕ → List ℕ
demo_text n = flat_map demo_atom (range_with_len 1 n) ++ codes "p($x), p($y) :- $z = $x + $y | p($z)."

-- the text of `demo 2`
abbrev pub SomeDemo : Type 0
SomeDemo = demo_text 2 ≡ codes "p(1). p(2). p($x), p($y) :- $z = $x + $y | p($z)."
